-- What a plan holds for the paragraphs that were placed.
use Rattle.std.specs.Prelude.{◌≡◌, ℕ, ◌+◌, ◌-◌, ◌<◌, ◌^◌, true, false, List, ◌++◌, map, drop, length}
use Rattle.doc_model.specs.declared.page_layout.Master.{Master}
use Rattle.doc_model.specs.declared.page_layout.PageLayout.{PageLayout}
use Rattle.doc_model.specs.declared.paragraph.ParId.{ParId}
use Rattle.page_model.specs.declared.placed.ParRows.{ParRows}
use Rattle.page_model.specs.declared.body.PageBody.{PageBody}
use Rattle.page_model.specs.declared.row.Row.{Row}
use Rattle.page_model.specs.Bodies.{bodies_of}
use Rattle.page_model.specs.Frames.{frames_of}
use Rattle.page_model.specs.BodyRows.{body_rows, set_pars}
use Rattle.page_model.specs.Breaking.{notes_of}
use Rattle.page_model.specs.Pages.{nothing_left}
use Rattle.paginate.specs.declared.plan.Plan.{Plan}
use Rattle.paginate.specs.Heads.{no_heads}
use Rattle.paginate.specs.Reached.{Reaches}

-- the rows that are on no closed page yet
abbrev pub pending : Plan → List Row
pending plan = drop plan.from plan.rows.items

-- how many rows paragraphs have, those of their footnotes included
abbrev pub row_count : List Master → List ParRows → ℕ
row_count masters pars = length (notes_of (body_rows masters pars)) + length (body_rows masters pars)

-- the plan stands where placing these paragraphs on pages of these masters and layouts leaves it, and isn't finished. They have fewer rows than 2^32 - 65536
pub record HasPlaced (masters : List Master) (layouts : List PageLayout) (pars : List ParRows) (plan : Plan) : Type 0 where
  pub unfinished : plan.finished ≡ false
  pub has_masters : plan.masters ≡ masters
  pub has_frames : plan.frames ≡ frames_of masters layouts
  pub has_set : plan.set.items ≡ set_pars pars
  pub few : row_count masters pars < 2 ^ 32 - 65536
  pub reaches : Reaches (frames_of masters layouts) 65535 nothing_left no_heads (body_rows masters pars) plan.breaker (pending plan)

-- both plans hold the same
pub record HoldsSame (old new : Plan) : Type 0 where
  pub same_masters : new.masters ≡ old.masters
  pub same_frames : new.frames ≡ old.frames
  pub same_set : new.set.items ≡ old.set.items
  pub same_pending : pending new ≡ pending old
  pub same_breaker : new.breaker ≡ old.breaker
  pub same_finished : new.finished ≡ old.finished

-- the new plan holds these paragraphs and rows behind those of the old one
pub record Adds (set : List ParId) (rows : List Row) (old new : Plan) : Type 0 where
  pub same_masters : new.masters ≡ old.masters
  pub same_frames : new.frames ≡ old.frames
  pub more_set : new.set.items ≡ old.set.items ++ set
  pub more_pending : pending new ≡ pending old ++ rows
  pub same_breaker : new.breaker ≡ old.breaker
  pub same_finished : new.finished ≡ old.finished

-- the bodies of the pages that are closed
abbrev pub bodies : Plan → List PageBody
bodies plan = map (λ closed. closed.body) (plan.breaker.pages.items ++ plan.last.items)

-- there are fewer pages than 2^32
abbrev pub IsShort : Plan → Type 0
IsShort plan = length (bodies plan) < 2 ^ 32

-- the plan is finished, and has the pages of these paragraphs
pub record IsFinished (masters : List Master) (layouts : List PageLayout) (pars : List ParRows) (plan : Plan) : Type 0 where
  pub finished : plan.finished ≡ true
  pub has_masters : plan.masters ≡ masters
  pub short : IsShort plan
  pub has_bodies : bodies plan ≡ bodies_of masters layouts pars
