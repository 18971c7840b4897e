use Rattle.std.proofs.Common.{arith}
use Rattle.tape.proofs.Ranges.{push_yes, push_low, push_high}
use Rattle.tape.proofs.reader.is_push.Goals as goal

pub returns-in-1-to-3 : goal.returns-in-1-to-3
returns-in-1-to-3 c = push_yes c.args.kind c.plain_kind.result c.plain_kind.ensures (omega arith) (omega arith)

pub returns-in_default : goal.returns-in_default
returns-in_default c = push_low c.args.kind c.plain_kind.result c.plain_kind.ensures (omega arith)

pub returns-in_default-2 : goal.returns-in_default-2
returns-in_default-2 c = push_high c.args.kind c.plain_kind.result c.plain_kind.ensures (omega arith) (omega arith)
