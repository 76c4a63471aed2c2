-- The Start row of a section that is wrapped round blocks.
use Rattle.std.specs.Prelude.{ℕ, false, List, None}
use Rattle.doc_model.specs.declared.block.Kind.TheVariants.{Plain}
use Rattle.node_array.specs.declared.row.SectionHead.{SectionHead}

-- the head of a section that is shown and not protected, and whose blocks come from no file
abbrev pub wrapping : List ℕ → List ℕ → SectionHead
wrapping name style = record { kind = Plain; name = name; style = style; protected = false; hidden = false; source = None }
