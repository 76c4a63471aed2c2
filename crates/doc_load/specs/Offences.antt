-- Offences of markup and of trees as those of a file.
use Rattle.load_model.specs.declared.offence.TreeOffence.{TreeOffence}
use Rattle.load_model.specs.declared.offence.TreeOffenceKind.{TreeOffenceKind}
use Rattle.load_model.specs.declared.offence.TreeOffenceKind.TheVariants as tree
use Rattle.markup_tree.specs.declared.reader.Offence.{Offence as MarkupOffence}
use Rattle.markup_tree.specs.declared.reader.OffenceKind.{OffenceKind as MarkupKind}
use Rattle.markup_tree.specs.declared.reader.OffenceKind.TheVariants as markup
use Rattle.markup_tree.specs.declared.reader.ReadFault.{ReadFault}
use Rattle.markup_tree.specs.declared.reader.ReadFault.TheVariants as read
use Rattle.doc_load.specs.declared.offence.LoadFault.{LoadFault}
use Rattle.doc_load.specs.declared.offence.LoadFault.TheVariants as fault
use Rattle.doc_load.specs.declared.offence.Offence.{Offence}
use Rattle.doc_load.specs.declared.offence.OffenceKind.{OffenceKind}
use Rattle.doc_load.specs.declared.offence.OffenceKind.TheVariants as kind

-- the kinds of markup
abbrev pub of_markup_kind : MarkupKind → OffenceKind
of_markup_kind markup.NotUtf8 = kind.NotUtf8
of_markup_kind markup.Form = kind.Form
of_markup_kind markup.Doctype = kind.Doctype
of_markup_kind markup.Deep = kind.Deep

-- the kinds of trees
abbrev pub of_tree_kind : TreeOffenceKind → OffenceKind
of_tree_kind tree.Names = kind.Names
of_tree_kind tree.Root = kind.Root
of_tree_kind tree.Mime = kind.Mime
of_tree_kind tree.NoText = kind.NoText
of_tree_kind tree.StyleLoop = kind.StyleLoop
of_tree_kind (tree.Limit limit) = kind.Limit limit
of_tree_kind tree.Table = kind.Table

-- an offence of markup
abbrev pub of_markup : MarkupOffence → Offence
of_markup offence = record { kind = of_markup_kind offence.kind; place = offence.place }

-- an offence of a tree
abbrev pub of_tree : TreeOffence → Offence
of_tree offence = record { kind = of_tree_kind offence.kind; place = offence.place }

-- why markup isn't read
abbrev pub fault_of : ReadFault → LoadFault
fault_of (read.Offence offence) = fault.Offence (of_markup offence)
fault_of read.NoMemory = fault.NoMemory
