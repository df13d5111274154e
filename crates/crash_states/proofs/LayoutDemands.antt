-- Demands 2 and 3 hold of each layout: what is proved over the layout is cited.
use mathlib.Core.Bool.{Bool}
use Prim.Native.Nat.{ℕ}
use lib.ListN.{length}
use Rattle.crash_states.specs.Layouts.{DemandsOf, EachLayout}
use Rattle.crash_states.proofs.Demands.{demand2}
use Rattle.crash_states.proofs.ListCuts.{demand3}

-- of any header size, compact or not
any_layout : (size : ℕ) (compact : Bool) → DemandsOf size compact
any_layout size compact img s c r list given clear =
    let d = demand2 img r (length list) given clear in
    record { opens = d.0; shows = d.1; cuts = demand3 img r list given clear }

-- of the four that are written
pub each_layout : EachLayout
each_layout = record {
  regular256 = any_layout 256 _;
  regular272 = any_layout 272 _;
  compact256 = any_layout 256 _;
  compact272 = any_layout 272 _;
}
