-- `number::number::byte_or_0` meets its contract. Past the end `get_or` gives its default.
use Rattle.std.proofs.Common.{sym, rules}
use lib.ListN.{get_or-eq_default}
use Rattle.number.proofs.number.byte_or_0.Goals as goal

pub returns-else-at-bytes : goal.returns-else-at-bytes
returns-else-at-bytes c = (sym (get_or-eq_default c.args.bytes.now 0 c.if-at-bytes.false), search rules)
