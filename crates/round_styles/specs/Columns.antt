-- The columns of pages by their masters.
use Rattle.std.specs.Prelude.{ℕ, List, slice_get, Option}
use Rattle.std.specs.Option.{option_and_then}
use Rattle.doc_model.specs.declared.page_layout.Master.{Master}
use Rattle.doc_model.specs.declared.page_layout.PageLayout.{PageLayout}
use Rattle.style_model.specs.Dims.{columns_of}
use Rattle.page_model.specs.Frames.{layout_named}

-- the layout of the master at a place, if there is one
abbrev pub layout_at : List Master → List PageLayout → Option ℕ → Option PageLayout
layout_at masters layouts place = option_and_then (λ at. option_and_then (λ master. layout_named layouts master.layout) (slice_get masters at)) place

-- the columns of pages with the master at a place, or with none
abbrev pub columns_at : List Master → List PageLayout → Option ℕ → ℕ
columns_at masters layouts place = columns_of (layout_at masters layouts place)
