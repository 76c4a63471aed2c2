-- Names that are redirected one after another.
use Rattle.std.proofs.Common.{◌≡◌, ℕ, ◌&&◌, ◌||◌, Bool, true, false, not, List, ◌++◌, Option, Some, None, refl, ap, sym, ◌∙◌}
use Rattle.std.specs.Prelude.{if◌then◌else◌}
use Rattle.std.specs.List.{flat_map, list_any}
use Rattle.std.specs.Str.{bytes_eq}
use Rattle.std.proofs.lemmas.Bool.{false≢true, eqb-true}
use Rattle.std.proofs.lemmas.List.Concat.{flat_map-append}
use Rattle.doc_model.specs.declared.paragraph.ParId.{ParId}
use Rattle.doc_model.specs.declared.paragraph.Item.{Item}
use Rattle.name_index.specs.declared.names.NameKind.{NameKind}
use Rattle.name_index.specs.declared.names.Named.{Named}
use Rattle.name_index.specs.Names.{found, Agree}
use Rattle.names_change.specs.ItemNames.{item_names}
use Rattle.names_change.specs.Leading.{have_name, leads_to, Redirects}
use Rattle.names_change.proofs.Lead.{own_leads}
use Rattle.names_change.proofs.Renamed.{any_both}

-- a name by a test of it
abbrev pub said_after : Bool → ParId → ParId → Option ParId → Option ParId
said_after which from to said = if which && leads_to from said then Some to else said

twice : (one other : Bool) (from to : ParId) (said : Option ParId) → said_after other from to (said_after one from to said) ≡ said_after (one || other) from to said
twice false other from to said = refl
twice true other from to said = by_test (leads_to from said) refl where
  same : (test : Bool) → (if test then Some to else Some to) ≡ Some to
  same true = refl
  same false = refl

  none : (test : Bool) → (if test && false then Some to else said) ≡ said
  none true = refl
  none false = refl

  by_test : (test : Bool) → leads_to from said ≡ test → said_after other from to (if leads_to from said then Some to else said) ≡ (if leads_to from said then Some to else said)
  by_test true is =
      ap (λ (b : Bool). said_after other from to (if b then Some to else said)) is ∙ same (other && leads_to from (Some to)) ∙ sym (ap (λ (b : Bool). if b then Some to else said) is)
  by_test false is =
      ap (λ (b : Bool). said_after other from to (if b then Some to else said)) is ∙ ap (λ (b : Bool). if other && b then Some to else said) is ∙ none other
      ∙ sym (ap (λ (b : Bool). if b then Some to else said) is)

pub then_redirects : (one other which : NameKind → List ℕ → Bool) (from to : ParId) (old mid new : List Named) → ((kind : NameKind) (name : List ℕ) → which kind name ≡ (one kind name || other kind name))
    → Redirects one from to old mid → Redirects other from to mid new → Redirects which from to old new
then_redirects one other which from to old mid new both first second kind name =
    second kind name ∙ ap (said_after (other kind name) from to) (first kind name) ∙ twice (one kind name) (other kind name) from to (found old kind name)
    ∙ ap (λ (b : Bool). said_after b from to (found old kind name)) (sym (both kind name))

pub redirects_as : (one other : NameKind → List ℕ → Bool) (from to : ParId) (old new : List Named) → ((kind : NameKind) (name : List ℕ) → other kind name ≡ one kind name) → Redirects one from to old new → Redirects other from to old new
redirects_as one other from to old new same redirects kind name = redirects kind name ∙ ap (λ (b : Bool). said_after b from to (found old kind name)) (sym (same kind name))

-- items one after another
pub have_both : (kind : NameKind) (name : List ℕ) (front behind : List Item) → have_name kind name (front ++ behind) ≡ (have_name kind name front || have_name kind name behind)
have_both kind name front behind =
    ap (list_any (bytes_eq name)) (flat_map-append (item_names kind) front behind) ∙ any_both name (flat_map (item_names kind) front) (flat_map (item_names kind) behind)

-- some names to another paragraph, and some of them back
back : (rear front : Bool) (from to : ParId) (said : Option ParId) → leads_to to said ≡ false → said_after front to from (said_after rear from to said) ≡ said_after (rear && not front) from to said
back rear front from to said new = by_tests rear front (leads_to from said) refl where
  itself : (said : Option ParId) → leads_to from said ≡ true → Some from ≡ said
  itself None is = absurd (false≢true is)
  itself (Some par) is = ap (λ (n : ℕ). Some (record { 0 = n })) (sym (eqb-true par.0 from.0 is))

  -- where it leads elsewhere, it stays
  stays : (front : Bool) (one : Option ParId) → one ≡ said → said_after front to from one ≡ said
  stays front one is = ap (said_after front to from) is ∙ ap (λ (b : Bool). if front && b then Some from else said) new ∙ none front where
    none : (test : Bool) → (if test && false then Some from else said) ≡ said
    none true = refl
    none false = refl

  by_tests : (rear front test : Bool) → leads_to from said ≡ test → said_after front to from (said_after rear from to said) ≡ said_after (rear && not front) from to said
  by_tests false front test is = stays front said refl
  by_tests true front false is =
      stays front (said_after true from to said) (ap (λ (b : Bool). if b then Some to else said) is) ∙ sym (ap (λ (b : Bool). if not front && b then Some to else said) is ∙ none (not front)) where
        none : (test : Bool) → (if test && false then Some to else said) ≡ said
        none true = refl
        none false = refl
  by_tests true true true is =
      ap (λ (b : Bool). said_after true to from (if b then Some to else said)) is ∙ ap (λ (b : Bool). if b then Some from else Some to) (own_leads to) ∙ itself said is
  by_tests true false true is =
      ap (λ (b : Bool). if b then Some to else said) is ∙ sym (ap (λ (b : Bool). if b then Some to else said) is)

pub back_redirects : (rear front : NameKind → List ℕ → Bool) (from to : ParId) (old mid new : List Named) → ((kind : NameKind) (name : List ℕ) → leads_to to (found old kind name) ≡ false)
    → Redirects rear from to old mid → Redirects front to from mid new → Redirects (λ kind name. rear kind name && not (front kind name)) from to old new
back_redirects rear front from to old mid new none first second kind name =
    second kind name ∙ ap (said_after (front kind name) to from) (first kind name) ∙ back (rear kind name) (front kind name) from to (found old kind name) (none kind name)

pub agree_again : (index later names others : List Named) (which : NameKind → List ℕ → Bool) (from to : ParId)
    → Agree index names → Redirects which from to index later → Redirects which from to names others → Agree later others
agree_again index later names others which from to agree first second kind name =
    first kind name ∙ ap (said_after (which kind name) from to) (agree kind name) ∙ sym (second kind name)
