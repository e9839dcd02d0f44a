use Rattle.std.proofs.Common.{arith, rules, ◌≡◌, length}
use Rattle.dataman_layout.specs.Fields.{number_bytes}
use Rattle.dataman_layout.proofs.Puts.{put-front, put-rest}
use Rattle.dataman_layout.proofs.fields.put_u32.Goals as goal

pub returns-clause-front : goal.returns-clause-front
unfolding number_bytes
returns-clause-front c =
    let size : length c.write_u32.new.buf ≡ 4 = search rules in
    put-front c.args.at 4 c.args.bytes.now c.write_u32.new.buf _ (omega arith) size c.write_u32.ensures

pub returns-clause-rest : goal.returns-clause-rest
returns-clause-rest c = λ k behind.
    let size : length c.write_u32.new.buf ≡ 4 = search rules in
    put-rest c.args.at 4 k c.args.bytes.now c.write_u32.new.buf (omega arith) size behind
