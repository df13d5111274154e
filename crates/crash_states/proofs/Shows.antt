-- What the images of an append show: what the old one shows, or the new entry too.
use mathlib.Core.Path.{◌≡◌}
use Rattle.format.specs.Header.{Image}
use Rattle.format.specs.File.{model}
use Rattle.reading.specs.Refusal.{refusal}
use Rattle.reading.specs.View.{view}
use Rattle.writing.specs.Request.{Request}
use Rattle.writing.specs.Shown.{with_entry}
use Rattle.crash_states.specs.Demand.{KeepsPayloads, new_entry}

-- an image opens, shows what the old one shows, and keeps its payloads
pub record StillShows (img now : Image) : Type 0 where
  pub opens : refusal now ≡ 0
  pub shows : view (model now) ≡ view (model img)
  pub payloads : KeepsPayloads (model img) (model now)

-- an image opens, shows what the old one shows and then the new entry, and keeps its payloads
pub record ShowsMore (img : Image) (r : Request) (now : Image) : Type 0 where
  pub opens : refusal now ≡ 0
  pub shows : view (model now) ≡ with_entry (view (model img)) (new_entry (model img) r)
  pub payloads : KeepsPayloads (model img) (model now)
