-- What states nothing, and what has nothing but a body.
use Rattle.std.specs.Prelude.{false, List, [], None}
use Rattle.doc_model.specs.declared.block.Block.{Block}
use Rattle.doc_model.specs.declared.style.Props.{Props}
use Rattle.doc_model.specs.declared.page_layout.NoteStart.TheVariants as counting
use Rattle.doc_model.specs.declared.document.Document.{Document}

-- the properties of which none is stated
unfoldable pub unstated : Props
unstated = record { margin_left = None; margin_right = None; margin_top = None; margin_bottom = None; indent = None; align = None; break_before = None; break_after = None; keep_next = None; keep_together = None; widows = None; orphans = None; page_number = None; display = None; tabs = None }

-- the document of these blocks, in which all else is empty or unstated
abbrev pub only_body : List Block → Document
only_body body = record { global = false; defaults = unstated; styles = []; lists = []; outline = record { name = []; levels = [] }; layouts = []; masters = []; variables = []; sequences = []; counting = counting.Document; body = body }
