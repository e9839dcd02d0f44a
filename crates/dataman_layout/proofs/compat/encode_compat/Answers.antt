use Rattle.std.proofs.Common.{refl, sym, ap, ◌∙◌, arith, rules}
use Rattle.std.proofs.lemmas.List.{take-append-drop}
use Rattle.dataman_layout.specs.Fields.{is_zeros}
use Rattle.dataman_layout.specs.FieldLaws.{number_at-number_bytes}
use Rattle.dataman_layout.specs.Compat.{compat_bytes}
use Rattle.dataman_layout.proofs.compat.encode_compat.Goals as goal

pub returns-clause-bytes : goal.returns-clause-bytes
unfolding compat_bytes
returns-clause-bytes c =
    sym (take-append-drop 4 c.put_u32.new.bytes) ∙ rw (c.put_u32.ensures.front, c.put_u32.ensures.rest 4 (omega arith)) refl

pub returns-clause-found : goal.returns-clause-found
returns-clause-found c = record {
  size = search rules;
  version = number_at-number_bytes 0 4 c.args.version c.put_u32.new.bytes (omega (arith, c.put_u32.ensures.fits)) c.put_u32.ensures.front;
  rest = ap is_zeros (c.put_u32.ensures.rest 4 (omega arith));
}
