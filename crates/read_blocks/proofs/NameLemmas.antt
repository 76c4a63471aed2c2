-- Declarations one after another.
use Rattle.std.proofs.Common.{◌≡◌, List, [], ◌∷◌, ◌++◌, map, sym, ap, ◌∙◌}
use Rattle.std.specs.List.{filter}
use Rattle.std.proofs.lemmas.List.{map-append}
use Rattle.std.proofs.lemmas.List.Elements.{filter-append}
use Rattle.load_model.specs.declared.names.Tag.{Tag}
use Rattle.load_model.specs.declared.element.Element.{Element}
use Rattle.read_blocks.specs.declared.read.Declared.{Declared}
use Rattle.read_blocks.specs.NamedInside.{is_declared, declared_by, declared_among}
use Rattle.read_blocks.specs.Shown.{shown_declared}

pub declared_behind : (which : Tag) (elements : List Element) (element : Element)
    → map shown_declared (declared_among which (elements ++ element ∷ [])) ≡ map shown_declared (declared_among which elements) ++ map shown_declared (declared_among which (element ∷ []))
declared_behind which elements element =
    ap (λ (some : List Element). map shown_declared (map declared_by some)) (filter-append (is_declared which) elements (element ∷ []))
    ∙ ap (map shown_declared) (map-append declared_by (filter (is_declared which) elements) (filter (is_declared which) (element ∷ [])))
    ∙ map-append shown_declared (declared_among which elements) (declared_among which (element ∷ []))
