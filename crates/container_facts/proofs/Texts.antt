-- Texts: the body, and each note.
use Rattle.std.proofs.Common.{◌≡◌, ◌≢◌, ℕ, ◌+◌, ◌≤◌, Bool, true, false, cond, eqb, not, ◌||◌, ◌&&◌, List, [], ◌∷◌, ◌++◌, map, Option, Some, None, refl, ap, ap₂, sym, ◌∙◌, subst, arith, inl, inr, ⊎_elim}
use Rattle.std.specs.Prelude.{◌⊎◌, find, unwrap_or}
use Rattle.std.specs.List.{flat_map, list_any}
use Rattle.std.proofs.lemmas.Bool.{false≢true}
use Rattle.std.proofs.lemmas.List.{map-append}
use Rattle.std.proofs.lemmas.Option.{none-some}
use Rattle.doc_model.specs.declared.block.Block.{Block, roll-Block}
use Rattle.doc_model.specs.declared.block.Block.TheOpen.{Block-F, Section-F}
use Rattle.doc_model.specs.declared.block.Block.TheFolds.{ind-Block, map-Block, map-Section}
use Rattle.doc_model.specs.declared.block.Section.{Section, roll-Section}
use Rattle.doc_model.specs.declared.document.Document.{Document}
use Rattle.doc_model.specs.declared.paragraph.Note.{Note, out-Note}
use Rattle.doc_model.specs.declared.paragraph.Par.{Par}
use Rattle.doc_model.specs.declared.paragraph.ParId.{ParId}
use Rattle.doc_model.specs.Parts.{notes}
use Rattle.doc_model.specs.Reading.{block_paragraphs, body_paragraphs, notes_of, number_of, paragraphs, with_notes}
use Rattle.container_rows.specs.Standing.{IsApart}
use Rattle.container_rows.proofs.Containers.{section_notes, twice}
use Rattle.container_rows.proofs.Firsts.{by_test, or_nothing}
use Rattle.container_rows.proofs.Tests.{block_notes, par_notes}
use Rattle.edit_rules.specs.Places.{Held, WithContainers, are_in_one_text, as_block, container_of, containers, holds, is_held, is_in_note, is_one_of, live_paragraph, note_container}
use Rattle.held_rows.proofs.Stands.{par_containers}
use Rattle.container_rows.proofs.Numbers.{tally, tally_both}
use Rattle.container_facts.proofs.Counts.{held_once, held_times, notes_held, section_within, tally_once, times_both, within_of}
use Rattle.container_facts.proofs.Lists.{passing, some_pass}
use Rattle.container_facts.proofs.Shared.{found_later, found_now, found_passes, held_somewhere, live_counts, some_is, Somewhere}

-- a thing is one of a list
abbrev pub Has : {X : Type 0} → X → List X → Type 0
Has x [] = ⊥
Has x (y ∷ ys) = (y ≡ x) ⊎ Has x ys

has_front : {X : Type 0} (x : X) (xs ys : List X) → Has x xs → Has x (xs ++ ys)
has_front x [] ys has = absurd has
has_front x (y ∷ xs) ys has = ⊎_elim (λ same. inl same) (λ later. inr (has_front x xs ys later)) has

has_behind : {X : Type 0} (x : X) (xs ys : List X) → Has x ys → Has x (xs ++ ys)
has_behind x [] ys has = has
has_behind x (y ∷ xs) ys has = inr (has_behind x xs ys has)

has_either : {X Y : Type 0} (x : X) (xs ys : List X) → Has x (xs ++ ys) → (Has x xs → Y) → (Has x ys → Y) → Y
has_either x [] ys has front behind = behind has
has_either x (y ∷ xs) ys has front behind = ⊎_elim (λ same. front (inl same)) (λ later. has_either x xs ys later (λ there. front (inr there)) behind) has

found_has : {X : Type 0} (p : X → Bool) (xs : List X) (x : X) → find p xs ≡ Some x → Has x xs
found_has p [] x found = absurd (none-some x found)
found_has p (y ∷ ys) x found =
    by_test (p y)
    (λ here. inl (some_is y x (sym (found_now p y ys here) ∙ found)))
    (λ other. inr (found_has p ys x (sym (found_later p y ys other) ∙ found)))

-- a container that holds a paragraph is the one that is found for it
has_counts : (n : ℕ) (cs : List Held) (container : Held) → Has container cs → passing (is_held n) container ≤ held_times n cs
has_counts n [] container has = absurd has
has_counts n (c ∷ cs) container has =
    ⊎_elim (λ same. omega (arith, ap (passing (is_held n)) same)) (λ later. omega (arith, has_counts n cs container later)) has

has_found : (n : ℕ) (cs : List Held) (container : Held) → held_times n cs ≤ 1 → Has container cs → holds n container ≡ true → find (holds n) cs ≡ Some container
has_found n [] container once has there = absurd has
has_found n (c ∷ cs) container once has there =
    ⊎_elim
    (λ same. found_now (holds n) c cs (ap (holds n) same ∙ there) ∙ ap Some same)
    (λ later.
    by_test (holds n c)
    (λ here. absurd (omega (arith, once, some_pass (is_held n) c here, some_pass (is_held n) container there, has_counts n cs container later)))
    (λ other. found_later (holds n) c cs other ∙ has_found n cs container (omega (arith, once)) later there))
    has

-- notes are among the containers
abbrev texts_of : List Note → List Held
texts_of some = map note_container some

abbrev Within : Block → Type 0
Within block = (container : Held) → Has container (texts_of (block_notes block)) → Has container (within_of block)

abbrev Block-Known : Type 0
Block-Known = (block : Block) × Within block

abbrev Section-Known : Type 0
Section-Known = (section : Section) × Within (roll-Block (Block-F.Section section))

blocks_within : (ks : List Block-Known) (container : Held) → Has container (texts_of (flat_map block_notes (map (λ k. k.0) ks))) → Has container (flat_map within_of (map (λ k. k.0) ks))
blocks_within [] container has = absurd has
blocks_within (k ∷ ks) container has =
    let blocks : List Block = map (λ k. k.0) ks in
    has_either container (texts_of (block_notes k.0)) (texts_of (flat_map block_notes blocks))
    (subst (Has container) (map-append note_container (block_notes k.0) (flat_map block_notes blocks)) has)
    (λ here. has_front container (within_of k.0) (flat_map within_of blocks) (k.1 container here))
    (λ later. has_behind container (within_of k.0) (flat_map within_of blocks) (blocks_within ks container later))

par_within : (par : Par) → Within (as_block par)
par_within par container has =
    subst (Has container) (sym (ap (λ (w : WithContainers). w.within) (par_containers par))) (subst (λ (some : List Note). Has container (texts_of some)) (par_notes par) has)

section_known : (x : Section-F Block Section) (ks : List Block-Known) → Within (roll-Block (Block-F.Section (roll-Section (record x { blocks = map (λ k. k.0) ks }))))
section_known x ks container has =
    let blocks : List Block = map (λ k. k.0) ks in
    let whole : Section-F Block Section = record x { blocks = blocks } in
    subst (Has container) (sym (section_within whole)) (inr (blocks_within ks container (subst (λ (some : List Note). Has container (texts_of some)) (section_notes whole) has)))

block_step : (x : Block-F Block Section) (y : Block-F Block-Known Section-Known) → map-Block Block-Known Section-Known Block Section (λ k. k.0) (λ k. k.0) y ≡ x → Within (roll-Block x)
block_step x (Block-F.Par par) is = subst (λ (z : Block-F Block Section). Within (roll-Block z)) is (par_within par)
block_step x (Block-F.Section known) is = subst (λ (z : Block-F Block Section). Within (roll-Block z)) is known.1

section_step : (x : Section-F Block Section) (y : Section-F Block-Known Section-Known) → map-Section Block-Known Section-Known Block Section (λ k. k.0) (λ k. k.0) y ≡ x
    → Within (roll-Block (Block-F.Section (roll-Section x)))
section_step x y is =
    subst (λ (z : Section-F Block Section). Within (roll-Block (Block-F.Section (roll-Section z)))) is
    (section_known (record { kind = y.kind; name = y.name; style = y.style; protected = y.protected; hidden = y.hidden; source = y.source; blocks = [] }) y.blocks)

block_within : (block : Block) → Within block
block_within = ind-Block Within (λ section. Within (roll-Block (Block-F.Section section))) block_step section_step

body_within : (body : List Block) (container : Held) → Has container (texts_of (flat_map block_notes body)) → Has container (flat_map within_of body)
body_within [] container has = absurd has
body_within (block ∷ body) container has =
    has_either container (texts_of (block_notes block)) (texts_of (flat_map block_notes body))
    (subst (Has container) (map-append note_container (block_notes block) (flat_map block_notes body)) has)
    (λ here. has_front container (within_of block) (flat_map within_of body) (block_within block container here))
    (λ later. has_behind container (within_of block) (flat_map within_of body) (body_within body container later))

notes_within : (doc : Document) (container : Held) → Has container (texts_of (notes doc)) → Has container (containers doc)
notes_within doc container has =
    inr (body_within doc.body container (subst (λ (some : List Note). Has container (texts_of some)) (twice notes_of block_paragraphs doc.body) has))

-- tests by numbers
numbers_tell : (n : ℕ) (pars : List Par) → is_one_of (map number_of pars) n ≡ holds n (map Some pars)
numbers_tell n [] = refl
numbers_tell n (par ∷ pars) = ap (λ (b : Bool). eqb (number_of par) n || b) (numbers_tell n pars)

any_note : (p : Held → Bool) (some : List Note) → list_any (λ note. p (note_container note)) some ≡ list_any p (texts_of some)
any_note p [] = refl
any_note p (note ∷ some) = ap (λ (b : Bool). p (note_container note) || b) (any_note p some)

in_both : (l r : ℕ) (some : List Note)
    → list_any (λ numbers. is_one_of numbers l && is_one_of numbers r) (map (λ note. map number_of (out-Note note).pars) some) ≡ list_any (λ container. holds l container && holds r container) (texts_of some)
in_both l r [] = refl
in_both l r (note ∷ some) =
    ap₂ (λ (a b : Bool). a || b) (ap₂ (λ (a b : Bool). a && b) (numbers_tell l (out-Note note).pars) (numbers_tell r (out-Note note).pars)) (in_both l r some)

module _ (n : ℕ) where
  counts_of_numbers : (pars : List Par) → is_one_of (map number_of pars) n ≡ true → 1 ≤ tally n pars
  counts_of_numbers [] is = absurd (false≢true is)
  counts_of_numbers (par ∷ pars) is =
      by_test (eqb (number_of par) n)
      (λ here. omega (arith, ap {B = ℕ} (λ (b : Bool). cond b 1 0) here))
      (λ other. omega (arith, counts_of_numbers pars (ap (λ (b : Bool). b || is_one_of (map number_of pars) n) (sym other) ∙ is)))

  no_number : (pars : List Par) → is_one_of (map number_of pars) n ≡ false → tally n pars ≡ 0
  no_number [] none = refl
  no_number (par ∷ pars) none =
      by_test (eqb (number_of par) n)
      (λ here. absurd (false≢true (sym none ∙ ap (λ (b : Bool). b || is_one_of (map number_of pars) n) here)))
      (λ other. omega (arith, ap {B = ℕ} (λ (b : Bool). cond b 1 0) other, no_number pars (ap (λ (b : Bool). b || is_one_of (map number_of pars) n) (sym other) ∙ none)))

  pub any_counts : (cs : List Held) → list_any (holds n) cs ≡ true → 1 ≤ held_times n cs
  any_counts [] is = absurd (false≢true is)
  any_counts (c ∷ cs) is =
      by_test (holds n c)
      (λ here. omega (arith, some_pass (is_held n) c here))
      (λ other. omega (arith, any_counts cs (ap (λ (b : Bool). b || list_any (holds n) cs) (sym other) ∙ is)))

  some_found : (cs : List Held) (container : Held) → find (holds n) cs ≡ Some container → list_any (holds n) cs ≡ true
  some_found [] container found = absurd (none-some container found)
  some_found (c ∷ cs) container found =
      by_test (holds n c)
      (λ here. ap (λ (b : Bool). b || list_any (holds n) cs) here)
      (λ other. ap (λ (b : Bool). b || list_any (holds n) cs) other ∙ some_found cs container (sym (found_later (holds n) c cs other) ∙ found))

  -- the paragraphs of the body, and then those of notes
  parts_counted : (pars : List Par) → tally n (flat_map with_notes pars) ≡ tally n pars + held_times n (texts_of (flat_map notes_of pars))
  parts_counted [] = refl
  parts_counted (par ∷ pars) =
      let more : List Note = flat_map notes_of pars in
      let own : List Par = flat_map (λ note. (out-Note note).pars) (notes_of par) in
      omega (
        arith,
        parts_counted pars,
        tally_both n own (flat_map with_notes pars),
        notes_held n (notes_of par),
        ap (held_times n) (map-append note_container (notes_of par) more),
        times_both n (texts_of (notes_of par)) (texts_of more),
      )

-- a paragraph stands in the body or in a note
module _ (doc : Document) (apart : IsApart doc) (par : ParId) where
  abbrev in_body : Bool
  in_body = is_one_of (map number_of (body_paragraphs doc)) par.0

  in_note : is_in_note doc par ≡ list_any (holds par.0) (texts_of (notes doc))
  in_note = any_note (holds par.0) (notes doc)

  -- one in a note isn't in the body
  pub not_both : is_in_note doc par ≡ true → in_body ≡ false
  not_both within =
      by_test in_body
      (λ both.
      absurd (omega (
        arith,
        counts_of_numbers par.0 (body_paragraphs doc) both,
        any_counts par.0 (texts_of (notes doc)) (sym in_note ∙ within),
        parts_counted par.0 (body_paragraphs doc),
        tally_once par.0 doc apart,
      )))
      (λ none. none)

  -- a live one in no note is in the body
  pub not_neither : live_paragraph doc par ≢ None → is_in_note doc par ≡ false → in_body ≡ true
  not_neither live outside =
      by_test in_body
      (λ is. is)
      (λ none.
      let some : 1 ≤ held_times par.0 (texts_of (notes doc)) = omega (arith, live_counts par.0 (paragraphs doc) live, parts_counted par.0 (body_paragraphs doc), no_number par.0 (body_paragraphs doc) none) in
      let there : Somewhere par.0 (texts_of (notes doc)) = held_somewhere par.0 (texts_of (notes doc)) some in
      absurd (false≢true (sym outside ∙ in_note ∙ some_found par.0 (texts_of (notes doc)) there.container there.found)))

  texts_once : held_times par.0 (texts_of (notes doc)) ≤ 1
  texts_once = omega (arith, parts_counted par.0 (body_paragraphs doc), tally_once par.0 doc apart)

  -- the container of one in a note is the note
  note_found : (container : Held) → find (holds par.0) (texts_of (notes doc)) ≡ Some container → holds par.0 container ≡ true → container_of doc par ≡ container
  note_found container found here =
      ap (λ (o : Option Held). unwrap_or o [])
      (has_found par.0 (containers doc) container (held_once par.0 doc apart) (notes_within doc container (found_has (holds par.0) (texts_of (notes doc)) container found)) here)

none_both : (l r : ℕ) (cs : List Held) → list_any (holds l) cs ≡ false → list_any (λ container. holds l container && holds r container) cs ≡ false
none_both l r [] none = refl
none_both l r (c ∷ cs) none =
    by_test (holds l c)
    (λ here. absurd (false≢true (sym none ∙ ap (λ (b : Bool). b || list_any (holds l) cs) here)))
    (λ other.
    ap (λ (b : Bool). b && holds r c || list_any (λ container. holds l container && holds r container) cs) other
    ∙ none_both l r cs (ap (λ (b : Bool). b || list_any (holds l) cs) (sym other) ∙ none))

both_found : (l r : ℕ) (cs : List Held) (container : Held) → held_times l cs ≤ 1 → find (holds l) cs ≡ Some container → list_any (λ container. holds l container && holds r container) cs ≡ holds r container
both_found l r [] container once found = absurd (none-some container found)
both_found l r (c ∷ cs) container once found =
    by_test (holds l c)
    (λ here.
    let none : list_any (holds l) cs ≡ false =
    by_test (list_any (holds l) cs) (λ some. absurd (omega (arith, once, some_pass (is_held l) c here, any_counts l cs some))) (λ none. none)
    in
    ap (λ (b : Bool). b && holds r c || list_any (λ container. holds l container && holds r container) cs) here
    ∙ ap (λ (b : Bool). holds r c || b) (none_both l r cs none) ∙ or_nothing (holds r c)
    ∙ ap (holds r) (some_is c container (sym (found_now (holds l) c cs here) ∙ found)))
    (λ other.
    ap (λ (b : Bool). b && holds r c || list_any (λ container. holds l container && holds r container) cs) other
    ∙ both_found l r cs container (omega (arith, once)) (sym (found_later (holds l) c cs other) ∙ found))

held_found : (l r : ℕ) (cs : List Held) (container : Held) → find (holds l) cs ≡ Some container → holds r container ≡ true → list_any (holds r) cs ≡ true
held_found l r [] container found there = absurd (none-some container found)
held_found l r (c ∷ cs) container found there =
    by_test (holds l c)
    (λ here. ap (λ (b : Bool). b || list_any (holds r) cs) (ap (holds r) (some_is c container (sym (found_now (holds l) c cs here) ∙ found)) ∙ there))
    (λ other. by_own (holds r c) (held_found l r cs container (sym (found_later (holds l) c cs other) ∙ found) there)) where
      by_own : (test : Bool) → list_any (holds r) cs ≡ true → (test || list_any (holds r) cs) ≡ true
      by_own true later = refl
      by_own false later = later

-- two paragraphs of which the first stands in no note
pub text_of_body : (doc : Document) (left right : ParId) → IsApart doc → live_paragraph doc left ≢ None → live_paragraph doc right ≢ None → is_in_note doc left ≡ false
    → are_in_one_text doc left right ≡ not (is_in_note doc right)
text_of_body doc left right apart live other outside =
    let texts : List Held = texts_of (notes doc) in
    let none : list_any (holds left.0) texts ≡ false = sym (in_note doc apart left) ∙ outside in
    ap₂ (λ (a b : Bool). a && in_body doc apart right || b) (not_neither doc apart left live outside) (in_both left.0 right.0 (notes doc) ∙ none_both left.0 right.0 texts none)
    ∙ or_nothing (in_body doc apart right)
    ∙ by_test (is_in_note doc right)
    (λ within. not_both doc apart right within ∙ ap not (sym within))
    (λ without. not_neither doc apart right other without ∙ ap not (sym without))

-- and of which it does
pub text_of_note : (doc : Document) (left right : ParId) → IsApart doc → is_in_note doc left ≡ true → are_in_one_text doc left right ≡ (is_in_note doc right && holds right.0 (container_of doc left))
text_of_note doc left right apart within =
    let texts : List Held = texts_of (notes doc) in
    let there : Somewhere left.0 texts = held_somewhere left.0 texts (any_counts left.0 texts (sym (in_note doc apart left) ∙ within)) in
    let here : holds left.0 there.container ≡ true = found_passes (holds left.0) texts there.container there.found in
    let is : container_of doc left ≡ there.container = note_found doc apart left there.container there.found here in
    ap₂ (λ (a b : Bool). a && in_body doc apart right || b) (not_both doc apart left within) (in_both left.0 right.0 (notes doc) ∙ both_found left.0 right.0 texts there.container (texts_once doc apart left) there.found)
    ∙ by_test (holds right.0 there.container)
    (λ held.
    held
    ∙ sym (ap₂ (λ (a b : Bool). a && b) (in_note doc apart right ∙ held_found left.0 right.0 texts there.container there.found held) (ap (holds right.0) is ∙ held)))
    (λ not_held. not_held ∙ sym (ap (λ (b : Bool). is_in_note doc right && b) (ap (holds right.0) is ∙ not_held) ∙ and_none (is_in_note doc right))) where
      and_none : (test : Bool) → (test && false) ≡ false
      and_none true = refl
      and_none false = refl
