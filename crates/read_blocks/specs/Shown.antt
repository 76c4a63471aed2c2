-- Sources and declarations as they are kept: counts stop at the greatest number of 32 bits.
use Rattle.std.specs.Prelude.{List, [], ◌∷◌, map}
use Rattle.load_model.specs.Blocks as blocks
use Rattle.load_model.specs.Left.{nothing}
use Rattle.element_parts.specs.Shown.{shown}
use Rattle.element_parts.specs.declared.left.LeftOut.{LeftOut}
use Rattle.read_blocks.specs.declared.read.Declared.{Declared}
use Rattle.read_blocks.specs.declared.read.ReadDeclarations.{ReadDeclarations}
use Rattle.read_blocks.specs.declared.read.ReadSource.{ReadSource}

-- a source
abbrev pub shown_source : blocks.ReadSource → ReadSource
shown_source read = record { source = read.source; left = shown read.left }

-- a declaration
abbrev pub shown_declared : blocks.Declared → Declared
shown_declared declared = record { place = declared.place; name = declared.name; left = shown declared.left }

-- the declarations of an element
abbrev pub shown_declarations : blocks.ReadDeclarations → ReadDeclarations
shown_declarations read = record { sequences = read.sequences; declared = map shown_declared read.declared; left = shown read.left }
