-- Declarations of one kind as they are stated.
use Rattle.std.proofs.Common.{◌≡◌, ℕ, ◌+◌, ◌<◌, Bool, true, false, not, cond, List, [], ◌∷◌, ◌++◌, map, length, take, get_or, refl, sym, ap, ap₂, ◌∙◌, append-nil, append_assoc}
use Rattle.std.specs.Prelude.{filter}
use Rattle.std.specs.List.{flat_map}
use Rattle.std.proofs.lemmas.List.{map-append, take_more}
use Rattle.std.proofs.lemmas.List.Concat.{flat_map-append}
use Rattle.std.proofs.lemmas.List.Elements.{filter-append}
use Rattle.load_model.specs.declared.element.Element.{Element}
use Rattle.load_model.specs.Blocks as blocks
use Rattle.load_model.specs.Loaded.{read_text, stated_declarations}
use Rattle.read_blocks.specs.declared.read.Declared.{Declared}
use Rattle.read_blocks.specs.declared.read.ReadDeclarations.{ReadDeclarations}
use Rattle.read_blocks.specs.Shown as read
use Rattle.declared_names.specs.declared.stated.Stated.{Stated}
use Rattle.declared_names.specs.Kept.{Shown, shown_declared, stated_of}
use Rattle.doc_load.specs.Parts.{is_of_kind, told}

-- the declarations of one kind
abbrev pub of_kind : Bool → blocks.ReadDeclarations → Bool
of_kind true part = part.sequences
of_kind false part = not part.sequences

abbrev pub declared_of : Bool → List blocks.ReadDeclarations → List blocks.Declared
declared_of sequences parts = flat_map (λ part. part.declared) (filter (of_kind sequences) parts)

abbrev pub told_of : Bool → List ReadDeclarations → List Shown
told_of sequences parts = map told (flat_map (λ part. part.declared) (filter (is_of_kind sequences) parts))

same_kind : (sequences : Bool) (part : blocks.ReadDeclarations) → is_of_kind sequences (read.shown_declarations part) ≡ of_kind sequences part
same_kind true part = refl
same_kind false part = refl

all_told : (declared : List blocks.Declared) → map told (map read.shown_declared declared) ≡ map shown_declared declared
all_told [] = refl
all_told (one ∷ declared) = ap (λ (more : List Shown). shown_declared one ∷ more) (all_told declared)

-- one more that is read
told_behind : (b : Bool) (part : blocks.ReadDeclarations) (seen : List ReadDeclarations) (more : List blocks.ReadDeclarations)
    → map told (flat_map (λ (p : ReadDeclarations). p.declared) seen) ≡ map shown_declared (flat_map (λ (p : blocks.ReadDeclarations). p.declared) more)
    → map told (flat_map (λ (p : ReadDeclarations). p.declared) (cond b (read.shown_declarations part ∷ seen) seen)) ≡ map shown_declared (flat_map (λ (p : blocks.ReadDeclarations). p.declared) (cond b (part ∷ more) more))
told_behind true part seen more known =
    map-append told (map read.shown_declared part.declared) (flat_map (λ (p : ReadDeclarations). p.declared) seen)
    ∙ ap₂ (λ (front back : List Shown). front ++ back) (all_told part.declared) known
    ∙ sym (map-append shown_declared part.declared (flat_map (λ (p : blocks.ReadDeclarations). p.declared) more))
told_behind false part seen more known = known

-- all that are read
pub told_kind : (sequences : Bool) (parts : List blocks.ReadDeclarations) → told_of sequences (map read.shown_declarations parts) ≡ map shown_declared (declared_of sequences parts)
told_kind sequences [] = refl
told_kind sequences (part ∷ parts) =
    ap (λ b. map told (flat_map (λ (p : ReadDeclarations). p.declared) (cond b (read.shown_declarations part ∷ filter (is_of_kind sequences) (map read.shown_declarations parts)) (filter (is_of_kind sequences) (map read.shown_declarations parts))))) (same_kind sequences part)
    ∙ told_behind (of_kind sequences part) part (filter (is_of_kind sequences) (map read.shown_declarations parts)) (filter (of_kind sequences) parts) (told_kind sequences parts)

pub stated_is : (sequences : Bool) (root : Element) → stated_declarations sequences root ≡ declared_of sequences (read_text root).declarations
stated_is true root = refl
stated_is false root = refl

-- one more of those that were read
told_append : (sequences : Bool) (some more : List ReadDeclarations) → told_of sequences (some ++ more) ≡ told_of sequences some ++ told_of sequences more
told_append sequences some more =
    let test : ReadDeclarations → Bool = is_of_kind sequences in
    ap (λ (parts : List ReadDeclarations). map told (flat_map (λ (p : ReadDeclarations). p.declared) parts)) (filter-append test some more)
    ∙ ap (map told) (flat_map-append (λ (p : ReadDeclarations). p.declared) (filter test some) (filter test more))
    ∙ map-append told (flat_map (λ (p : ReadDeclarations). p.declared) (filter test some)) (flat_map (λ (p : ReadDeclarations). p.declared) (filter test more))

pub kind_step : (sequences : Bool) (parts : List ReadDeclarations) (at : ℕ) (d : ReadDeclarations) (old new : List Shown) → at < length parts
    → old ≡ told_of sequences (take at parts) → new ≡ old ++ told_of sequences (get_or parts at d ∷ []) → new ≡ told_of sequences (take (at + 1) parts)
kind_step sequences parts at d old new l known pushed =
    pushed ∙ ap (λ (some : List Shown). some ++ told_of sequences (get_or parts at d ∷ [])) known
    ∙ sym (told_append sequences (take at parts) (get_or parts at d ∷ [])) ∙ ap (told_of sequences) (sym (take_more parts at d l))

-- of one element
pub kind_alone : (sequences : Bool) (part : ReadDeclarations) → is_of_kind sequences part ≡ true → told_of sequences (part ∷ []) ≡ map told part.declared
kind_alone sequences part e =
    ap (λ b. map told (flat_map (λ (p : ReadDeclarations). p.declared) (cond b (part ∷ []) []))) e ∙ ap (map told) (append-nil part.declared)

pub kind_none : (sequences : Bool) (part : ReadDeclarations) → is_of_kind sequences part ≡ false → told_of sequences (part ∷ []) ≡ []
kind_none sequences part e = ap (λ b. map told (flat_map (λ (p : ReadDeclarations). p.declared) (cond b (part ∷ []) []))) e

-- one more declaration as it is stated
pub stated_step : (declared : List Declared) (at : ℕ) (d : Declared) (base : List Shown) (old : List Stated) (one : Stated) → at < length declared
    → map stated_of old ≡ base ++ map told (take at declared) → stated_of one ≡ told (get_or declared at d) → map stated_of (old ++ one ∷ []) ≡ base ++ map told (take (at + 1) declared)
stated_step declared at d base old one l known is =
    map-append stated_of old (one ∷ []) ∙ ap₂ (λ (front back : List Shown). front ++ back) known (ap (λ (shown : Shown). shown ∷ []) is)
    ∙ append_assoc base (map told (take at declared)) (told (get_or declared at d) ∷ [])
    ∙ ap (λ (more : List Shown). base ++ more) (sym (ap (map told) (take_more declared at d l) ∙ map-append told (take at declared) (get_or declared at d ∷ [])))
