-- What is left out in several places.
use Rattle.std.proofs.Common.{◌≡◌, ℕ, ◌-◌, ◌<◌, Bool, List, [], ◌∷◌, length, map, get_or, refl, sym, ap, ◌∙◌, arith}
use Rattle.std.proofs.lemmas.List.{length-map, get_or-map}
use Rattle.load_model.specs.declared.element.Element.{Element}
use Rattle.load_model.specs.Left.{Left, nothing, both, all_of, only_elements}
use Rattle.load_model.specs.Loaded.{kept_declarations, stated_declarations}
use Rattle.element_parts.specs.declared.left.LeftOut.{LeftOut}
use Rattle.element_parts.specs.Shown.{shown}
use Rattle.read_blocks.specs.declared.read.ReadDeclarations.{ReadDeclarations}
use Rattle.read_blocks.specs.Shown.{shown_declarations}
use Rattle.load_model.specs.Blocks as blocks

-- between declarations
module _ (parts : List ReadDeclarations) (lefts : List Left) (same : map (λ (part : ReadDeclarations). part.left) parts ≡ map shown lefts) where
  pub as_many : length parts ≡ length lefts
  as_many = sym (length-map parts (λ (part : ReadDeclarations). part.left)) ∙ ap (λ (some : List LeftOut). length some) same ∙ length-map lefts shown

  pub left_at : (at : ℕ) (d : ReadDeclarations) → at < length parts → (get_or parts at d).left ≡ shown (get_or lefts at nothing)
  left_at at d l =
      let many = as_many in
      sym (get_or-map (λ (part : ReadDeclarations). part.left) parts at d (shown nothing) l)
      ∙ ap (λ (some : List LeftOut). get_or some at (shown nothing)) same ∙ get_or-map shown lefts at nothing (shown nothing) (omega (arith, l, many))

pub between_are : (parts : List blocks.ReadDeclarations) → map (λ (part : ReadDeclarations). part.left) (map shown_declarations parts) ≡ map shown (map (λ (part : blocks.ReadDeclarations). part.left) parts)
between_are [] = refl
between_are (part ∷ parts) = ap (λ (more : List LeftOut). shown part.left ∷ more) (between_are parts)

-- what is left out in declarations of one kind
abbrev pub of_kind : Bool → Element → Left
of_kind sequences root = both (all_of (map (λ (declared : blocks.Declared). declared.left) (kept_declarations sequences root))) (only_elements (length (stated_declarations sequences root) - length (kept_declarations sequences root)))
