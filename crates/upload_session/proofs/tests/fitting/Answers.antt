-- A reply that suits a commit may be heard on one.
use Rattle.std.proofs.Common.{◌≡◌, sym, subst}
use Rattle.mission_model.specs.declared.request.Asked.{Asked}
use Rattle.mission_model.specs.Replies.{CanHear}
use Rattle.upload_session.proofs.tests.fitting.Goals as goal

pub returns-in-Commit : goal.returns-in-Commit
returns-in-Commit c = λ at awaits. subst (λ (a : Asked). CanHear a c.args.reply) (sym c.in-Commit.is) (c.requires.served c.in-Commit.kind c.in-Commit.id c.in-Commit.count)
