-- `hash::lookup3::started` meets its contract. The length's high bits wrap away.
use mathlib.Core.Path.{◌≡◌}
use Prim.Native.Nat.{◌+◌, ◌%◌, ◌^◌}
use native.Mathlib.Omega.{arith}
use Rattle.format.specs.Number.{plus}
use Rattle.format.specs.Lookup3.{start}
use Rattle.hash.proofs.lookup3.started.Goals as goal

pub returns : goal.returns
unfolding start plus
returns c = let e : c.add32-x.result ≡ (0xdead_beef + c.args.n) % 2 ^ 32 = omega arith in cc
