use Rattle.std.proofs.Common.{arith, inl, inr, take, length-take}
use Rattle.mission_model.proofs.Places.{has_pair-at, kept-rises, kept-put, kept-len}
use Rattle.std.proofs.lemmas.Grind.{common_steps}
use Rattle.mission_model.proofs.counts.Counts.put.Goals as goal

pub put_in-len-requires-clause-room : goal.put_in-len-requires-clause-room
put_in-len-requires-clause-room c =
    elim c.requires.room [
      | inl has ↦ inl (has_pair-at 0 (take c.args.self.now.len c.args.self.now.pairs) c.args.seq (kept-rises c.args.self.now.len c.args.self.now.pairs c.args.self.now.kept) has)
      | inr room ↦ inr (grind (arith, common_steps, length-take, kept-len c.args.self.now.len c.args.self.now.pairs c.args.self.now.kept, room))
    ]

pub invariant_of-self : goal.invariant_of-self
invariant_of-self c = record { kept = kept-put c.args.self.now.pairs c.put_in-len.new.cells c.args.self.now.len c.put_in-len.result c.args.seq c.args.used c.args.self.now.kept c.requires.used (grind (arith, common_steps, c.put_in-len.ensures.within, c.put_in-len.ensures.kept)) c.put_in-len.ensures.grows c.put_in-len.ensures.pairs c.put_in-len.ensures.rest }
