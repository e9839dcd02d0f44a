use Rattle.first_num.proofs.Printed.{decimal_reads, decimal_shortest, decimal_bytes}
use Rattle.first_num.proofs.print.print_scaled.Goals as goal

pub returns-then-is_err-clause-reads_back : goal.returns-then-is_err-clause-reads_back
returns-then-is_err-clause-reads_back c = decimal_reads c.args.value c.args.scale c.ranges.value c.requires

pub returns-then-is_err-clause-shortest : goal.returns-then-is_err-clause-shortest
returns-then-is_err-clause-shortest c = decimal_shortest c.args.value c.args.scale c.ranges.value

pub returns-then-is_err-clause-bytes : goal.returns-then-is_err-clause-bytes
returns-then-is_err-clause-bytes c = decimal_bytes c.args.value c.args.scale c.ranges.value

pub returns-else-is_err-clause-reads_back : goal.returns-else-is_err-clause-reads_back
returns-else-is_err-clause-reads_back c = decimal_reads c.args.value c.args.scale c.ranges.value c.requires

pub returns-else-is_err-clause-shortest : goal.returns-else-is_err-clause-shortest
returns-else-is_err-clause-shortest c = decimal_shortest c.args.value c.args.scale c.ranges.value

pub returns-else-is_err-clause-bytes : goal.returns-else-is_err-clause-bytes
returns-else-is_err-clause-bytes c = decimal_bytes c.args.value c.args.scale c.ranges.value
