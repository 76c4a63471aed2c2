-- Where a name leads among names with their paragraphs.
use Rattle.std.proofs.Common.{◌≡◌, ℕ, ◌&&◌, ◌||◌, Bool, true, false, not, cond, eqb, List, [], ◌∷◌, ◌++◌, Option, Some, None, refl, ap, ap₂, sym, ◌∙◌, eq-eqb}
use Rattle.std.specs.Prelude.{if◌then◌else◌}
use Rattle.std.specs.List.{find, AllByRecursion as Each}
use Rattle.std.specs.Option.{option_map}
use Rattle.std.specs.Str.{bytes_eq}
use Rattle.std.proofs.lemmas.Bool.{false≢true}
use Rattle.std.proofs.lemmas.Slice.Eq.{bytes_eq-Decides}
use Rattle.doc_model.specs.declared.document.Document.{Document}
use Rattle.doc_model.specs.declared.paragraph.ParId.{ParId}
use Rattle.name_index.specs.declared.names.NameKind.{NameKind}
use Rattle.name_index.specs.Names.{found}
use Rattle.name_index.specs.Scan.{names_of_kind, names_of}
use Rattle.name_index.proofs.Found.{or_else}
use Rattle.name_index.proofs.Scanned.{found_is_scanned}
use Rattle.names_change.specs.Leading.{leads_to}

-- names with their paragraphs
abbrev pub Pairs : Type 0
Pairs = List (List ℕ × ParId)

-- the paragraph of the first of this name
abbrev pub lead : List ℕ → Pairs → Option ParId
lead name [] = None
lead name (pair ∷ pairs) = cond (bytes_eq name pair.0) (Some pair.1) (lead name pairs)

pub lead_both : (name : List ℕ) (front behind : Pairs) → lead name (front ++ behind) ≡ or_else (lead name front) (lead name behind)
lead_both name [] behind = refl
lead_both name (pair ∷ front) behind = by_test (lead_both name front behind) (bytes_eq name pair.0) where
  by_test : lead name (front ++ behind) ≡ or_else (lead name front) (lead name behind) → (test : Bool)
      → cond test (Some pair.1) (lead name (front ++ behind)) ≡ or_else (cond test (Some pair.1) (lead name front)) (lead name behind)
  by_test more true = refl
  by_test more false = more

-- what a scan finds
scan_leads : (name : List ℕ) (pairs : Pairs) → option_map (λ (pair : List ℕ × ParId). pair.1) (find (λ (pair : List ℕ × ParId). bytes_eq name pair.0) pairs) ≡ lead name pairs
scan_leads name [] = refl
scan_leads name (pair ∷ pairs) = by_test (scan_leads name pairs) (bytes_eq name pair.0) where
  by_test : option_map (λ (pair : List ℕ × ParId). pair.1) (find (λ (pair : List ℕ × ParId). bytes_eq name pair.0) pairs) ≡ lead name pairs → (test : Bool)
      → option_map (λ (pair : List ℕ × ParId). pair.1) (cond test (Some pair) (find (λ (pair : List ℕ × ParId). bytes_eq name pair.0) pairs)) ≡ cond test (Some pair.1) (lead name pairs)
  by_test more true = refl
  by_test more false = more

pub none_found : (doc : Document) (kind : NameKind) → found (names_of doc) kind [] ≡ None
none_found doc kind = found_is_scanned doc kind []

pub found_leads : (doc : Document) (kind : NameKind) (letter : ℕ) (letters : List ℕ) → found (names_of doc) kind (letter ∷ letters) ≡ lead (letter ∷ letters) (names_of_kind doc kind)
found_leads doc kind letter letters = found_is_scanned doc kind (letter ∷ letters) ∙ scan_leads (letter ∷ letters) (names_of_kind doc kind)

-- names of other paragraphs
abbrev pub Other : ℕ → List ℕ × ParId → Type 0
Other number pair = eqb pair.1.0 number ≡ false

pub others_lead : (par : ParId) (name : List ℕ) (pairs : Pairs) → Each (Other par.0) pairs → leads_to par (lead name pairs) ≡ false
others_lead par name [] others = refl
others_lead par name (pair ∷ pairs) others = by_test (others_lead par name pairs others.1) (bytes_eq name pair.0) where
  by_test : leads_to par (lead name pairs) ≡ false → (test : Bool) → leads_to par (cond test (Some pair.1) (lead name pairs)) ≡ false
  by_test more true = others.0
  by_test more false = more

pub own_leads : (par : ParId) → leads_to par (Some par) ≡ true
own_leads par = eq-eqb par.0 par.0 refl

-- what leads to one paragraph leads to another
abbrev pub redirected : ParId → ParId → Option ParId → Option ParId
redirected from to said = if leads_to from said then Some to else said

pub no_more : (test : Bool) → (test && false) ≡ false
no_more true = refl
no_more false = refl

pub as_well : (test : Bool) → (test && true) ≡ test
as_well true = refl
as_well false = refl

pub nothing_else : (test : Bool) → (test || false) ≡ test
nothing_else true = refl
nothing_else false = refl

stays : (which test : Bool) (to said : Option ParId) → test ≡ false → said ≡ (if which && test then to else said)
stays which test to said none = sym (ap (λ (b : Bool). if which && b then to else said) none ∙ ap (λ (b : Bool). if b then to else said) (no_more which))

-- names of which the later ones of a paragraph lead to another: what is found in all
pub redirect : (from to : ParId) (ahead front rear new behind : Option ParId) (in_front in_rear : Bool) → leads_to from ahead ≡ false
    → (leads_to from front ≡ true → in_front ≡ true) → (front ≡ None → in_front ≡ false) → (leads_to from rear ≡ true → in_rear ≡ true) → new ≡ redirected from to rear → leads_to from behind ≡ false
    → or_else ahead (or_else front (or_else new behind))
    ≡ (if (in_rear && not in_front) && leads_to from (or_else ahead (or_else front (or_else rear behind))) then Some to else or_else ahead (or_else front (or_else rear behind)))
redirect from to (Some par) front rear new behind in_front in_rear other here none there is last = stays (in_rear && not in_front) (leads_to from (Some par)) (Some to) (Some par) other
redirect from to None (Some par) rear new behind in_front in_rear other here none there is last = by_test (leads_to from (Some par)) refl where
  by_test : (test : Bool) → leads_to from (Some par) ≡ test → Some par ≡ (if (in_rear && not in_front) && leads_to from (Some par) then Some to else Some par)
  by_test true leads =
      sym (ap (λ (b : Bool). if (in_rear && not b) && leads_to from (Some par) then Some to else Some par) (here leads)
      ∙ ap (λ (b : Bool). if b && leads_to from (Some par) then Some to else Some par) (no_more in_rear))
  by_test false leads = stays (in_rear && not in_front) (leads_to from (Some par)) (Some to) (Some par) leads
redirect from to None None (Some par) new behind in_front in_rear other here none there is last =
    ap (λ said. or_else said behind) is ∙ by_test (leads_to from (Some par)) refl where
      by_test : (test : Bool) → leads_to from (Some par) ≡ test
          → or_else (if leads_to from (Some par) then Some to else Some par) behind ≡ (if (in_rear && not in_front) && leads_to from (Some par) then Some to else Some par)
      by_test true leads =
          ap (λ (b : Bool). or_else (if b then Some to else Some par) behind) leads
          ∙ sym (ap₂ (λ (r f : Bool). if (r && not f) && leads_to from (Some par) then Some to else Some par) (there leads) (none refl) ∙ ap (λ (b : Bool). if b then Some to else Some par) leads)
      by_test false leads =
          ap (λ (b : Bool). or_else (if b then Some to else Some par) behind) leads ∙ stays (in_rear && not in_front) (leads_to from (Some par)) (Some to) (Some par) leads
redirect from to None None None new behind in_front in_rear other here none there is last =
    ap (λ said. or_else said behind) is ∙ stays (in_rear && not in_front) (leads_to from behind) (Some to) behind last

-- a name that is put among others
none_first : (one other : Option ParId) → or_else one other ≡ None → one ≡ None
none_first (Some par) other is = is
none_first None other is = refl

pub put_lead : (name other : List ℕ) (id : ParId) (front behind : Pairs) → lead name (front ++ behind) ≡ None
    → lead other (front ++ (name, id) ∷ behind) ≡ cond (bytes_eq name other) (Some id) (lead other (front ++ behind))
put_lead name other id front behind none = lead_both other front ((name, id) ∷ behind) ∙ by_test (bytes_eq name other) refl where
  opened : (test : Bool) → bytes_eq other name ≡ test → or_else (lead other front) (lead other ((name, id) ∷ behind)) ≡ or_else (lead other front) (cond test (Some id) (lead other behind))
  opened test is = ap (λ (b : Bool). or_else (lead other front) (cond b (Some id) (lead other behind))) is

  by_test : (test : Bool) → bytes_eq name other ≡ test → or_else (lead other front) (lead other ((name, id) ∷ behind)) ≡ cond test (Some id) (lead other (front ++ behind))
  by_test true is =
      let same : name ≡ other = (bytes_eq-Decides name other).0 is in
      let absent : lead other front ≡ None = ap (λ text. lead text front) (sym same) ∙ none_first (lead name front) (lead name behind) (sym (lead_both name front behind) ∙ none) in
      opened true ((bytes_eq-Decides other name).1 (sym same)) ∙ ap (λ said. or_else said (Some id)) absent
  by_test false is = opened false (turned (bytes_eq other name) refl) ∙ sym (lead_both other front behind) where
    turned : (test : Bool) → bytes_eq other name ≡ test → bytes_eq other name ≡ false
    turned true e = absurd (false≢true (sym is ∙ (bytes_eq-Decides name other).1 (sym ((bytes_eq-Decides other name).0 e))))
    turned false e = e
