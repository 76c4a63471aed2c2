-- What the breaking of pages reads of master pages and layouts.
use Rattle.std.specs.Prelude.{ℕ, ◌-◌, max, List, [], ◌∷◌, length, find, suc, Option, Some, None, slice_get, unwrap_or}
use Rattle.std.specs.Str.{bytes_eq}
use Rattle.doc_model.specs.declared.page_layout.Master.{Master}
use Rattle.doc_model.specs.declared.page_layout.PageLayout.{PageLayout}
use Rattle.style_model.specs.Dims.{columns_of, rows_of}
use Rattle.style_model.specs.Masters.{next_master}
use Rattle.page_model.specs.declared.frame.Frame.{Frame}
use Rattle.page_model.specs.declared.frame.Frames.{Frames}

-- the layout of a name: none for the empty one
abbrev pub layout_named : List PageLayout → List ℕ → Option PageLayout
layout_named layouts [] = None
layout_named layouts (letter ∷ letters) = find (λ layout. bytes_eq layout.name (letter ∷ letters)) layouts

-- the rows for body and notes: those of the page without one for each paragraph of header and footer, and at least four
abbrev pub room_of : List PageLayout → Master → ℕ
room_of layouts master = max 4 (rows_of (layout_named layouts master.layout) - length master.header - length master.footer)

-- what is read of the master at a place
abbrev pub frame_of : List Master → List PageLayout → ℕ → Master → Frame
frame_of masters layouts place master = record { columns = columns_of (layout_named layouts master.layout); room = room_of layouts master; next = next_master masters (Some place) }

-- what is read of masters, of which the first has the given place
abbrev pub frames_from : List Master → List PageLayout → ℕ → List Master → List Frame
frames_from masters layouts place [] = []
frames_from masters layouts place (master ∷ more) = frame_of masters layouts place master ∷ frames_from masters layouts (suc place) more

-- a page without a master has the unstated layout, no header and no footer
abbrev pub bare_frame : Frame
bare_frame = record { columns = columns_of None; room = max 4 (rows_of None); next = None }

-- what is read of all masters
unfoldable pub frames_of : List Master → List PageLayout → Frames
frames_of masters layouts = record { each = frames_from masters layouts 0 masters; bare = bare_frame; first = next_master masters None }

-- what is read of the master at a place, or of none
abbrev pub frame_at : Frames → Option ℕ → Frame
frame_at frames None = frames.bare
frame_at frames (Some place) = unwrap_or (slice_get frames.each place) frames.bare

-- the master of the page behind one with this master; where there is no page yet, that of a first page
abbrev pub next_of : Frames → Option ℕ → Option ℕ
next_of frames None = frames.first
next_of frames (Some place) = (frame_at frames (Some place)).next
