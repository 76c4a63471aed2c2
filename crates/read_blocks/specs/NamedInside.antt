-- Declarations among elements.
use Rattle.std.specs.Prelude.{◌&&◌, ◌-◌, Bool, List, [], ◌∷◌, map, filter, length, is_some}
use Rattle.load_model.specs.declared.names.Key.TheVariants as key
use Rattle.load_model.specs.declared.names.Tag.{Tag}
use Rattle.load_model.specs.declared.element.Element.{Element, out-Element}
use Rattle.load_model.specs.Blocks.{Declared, ReadDeclarations, ReadBlocks, no_blocks, left_by}
use Rattle.load_model.specs.Left.{both, nothing, only_elements, leaf_left, attributes_of, children, is}
use Rattle.load_model.specs.Values as value
use Rattle.load_model.specs.Values.{rule, stated, stated_or}

-- whether an element is a declaration with a name
abbrev pub is_declared : Tag → Element → Bool
is_declared which element = is which element && is_some (stated key.TextName value.name (attributes_of element))

-- the declaration that an element is
abbrev pub declared_by : Element → Declared
declared_by element = record {
  place = (out-Element element).place;
  name = stated_or key.TextName value.name [] (attributes_of element);
  left = both (left_by (rule key.TextName value.name ∷ []) (attributes_of element)) (leaf_left element);
}

-- those among some elements
abbrev pub declared_among : Tag → List Element → List Declared
declared_among which elements = map declared_by (filter (is_declared which) elements)

-- the declarations in an element, of sequences or of variables
abbrev pub declarations_in : Bool → Tag → Element → ReadDeclarations
declarations_in sequences which element = record {
  sequences = sequences;
  declared = declared_among which (children element);
  left = both (left_by [] (attributes_of element)) (only_elements (length (children element) - length (declared_among which (children element))));
}

-- nothing but declarations
abbrev pub with_declarations : ReadDeclarations → ReadBlocks
with_declarations read = record (no_blocks nothing) { declarations = read ∷ [] }
