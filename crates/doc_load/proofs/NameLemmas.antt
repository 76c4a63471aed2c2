-- The declared names of one kind.
use Rattle.std.proofs.Common.{◌≡◌, ℕ, Bool, true, false, List, ◌++◌, map, refl, sym, ap, ap₂, ◌∙◌}
use Rattle.std.specs.Prelude.{chars}
use Rattle.load_model.specs.declared.element.Element.{Element}
use Rattle.load_model.specs.Blocks as blocks
use Rattle.load_model.specs.Loaded.{declared_names, kept_declarations, met_of, stated_declarations, used_names}
use Rattle.load_model.specs.Met.{MetName}
use Rattle.met_read.specs.declared.things.MetName.{MetName as Read}
use Rattle.met_read.specs.Read.{name_of}
use Rattle.declared_names.specs.declared.stated.Stated.{Stated}
use Rattle.declared_names.specs.Kept.{Shown, shown_declared, stated_of}
use Rattle.declared_names.specs.Merge.{kept_places, used_places}
use Rattle.declared_names.specs.Names.{first_declarations}
use Rattle.declared_names.specs.Used.{fields_of, first_uses}
use Rattle.doc_load.specs.declared.declarations.OfKind.{OfKind}
use Rattle.doc_load.specs.Parts.{KindIs}
use Rattle.std.proofs.lemmas.Simd.{map-map}

uses_are : (sequences : Bool) (root : Element) → first_uses (map (λ (declared : blocks.Declared). declared.name) (first_declarations (stated_declarations sequences root))) (fields_of sequences (met_of root)) ≡ used_names sequences root
uses_are true root = refl
uses_are false root = refl

module _ (sequences : Bool) (root : Element) (kind : OfKind) (is : KindIs sequences root kind) where
  kept_by : {X : Type 0} (f : Shown → X) → map (λ (one : Stated). f (stated_of one)) kind.names.kept.items ≡ map (λ (one : blocks.Declared). f (shown_declared one)) (kept_declarations sequences root)
  kept_by f =
      sym (map-map f stated_of kind.names.kept.items) ∙ ap (map f) is.names_are.kept_are ∙ map-map f shown_declared (kept_declarations sequences root)

  used_by : {X : Type 0} (f : MetName → X) → map (λ (one : Read). f (name_of one)) kind.names.used.items ≡ map f (used_names sequences root)
  used_by f = sym (map-map f name_of kind.names.used.items) ∙ ap (map f) (is.names_are.used_are ∙ uses_are sequences root)

  pub names_told : map (λ (one : Stated). chars one.name.now) kind.names.kept.items ++ map (λ (one : Read). chars one.name.now) kind.names.used.items ≡ declared_names sequences root
  names_told = ap₂ (λ (front back : List (List ℕ)). front ++ back) (kept_by (λ (one : Shown). one.name)) (used_by (λ (one : MetName). one.name))

  pub kept_at : kept_places kind.names ≡ map (λ (one : blocks.Declared). one.place) (kept_declarations sequences root)
  kept_at = kept_by (λ (one : Shown). one.place)

  pub used_at : used_places kind.names ≡ map (λ (one : MetName). one.place) (used_names sequences root)
  used_at = used_by (λ (one : MetName). one.place)
