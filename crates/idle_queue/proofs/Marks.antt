-- The live paragraphs that a change touches, by place.
use Rattle.std.proofs.Common.{◌≡◌, ◌≢◌, ℕ, ◌+◌, ◌-◌, ◌≤◌, ◌<◌, ◌⊎◌, Bool, true, false, List, [], ◌∷◌, ◌++◌, length, set, get_or, take, refl, ap, sym, ◌∙◌, subst, arith, zero, suc, Option, Some, None, inl, inr}
use Rattle.std.specs.Prelude.{map, slice_get, find, ◌==◌, ◌||◌, if◌then◌else◌}
use Rattle.std.specs.List.{AllByRecursion as Each, list_any}
use Rattle.std.proofs.lemmas.Bool.{eq-eqb, cases_lt}
use Rattle.std.proofs.lemmas.Bool.Decides.{eqb_tells}
use Rattle.std.proofs.lemmas.List.{take_more}
use Rattle.std.proofs.lemmas.List.Folds.{list_any-append}
use Rattle.std.proofs.lemmas.Option.{slice_get_read}
use Rattle.doc_model.specs.declared.document.Document.{Document}
use Rattle.doc_model.specs.declared.paragraph.Par.{Par}
use Rattle.doc_model.specs.Plain.{IsPlain}
use Rattle.doc_model.specs.Reading.{paragraphs, number_of, upwards}
use Rattle.round_model.specs.Idle.{Idle, Live, live_at, live_after, restarted, most_keys}
use Rattle.round_model.specs.Reached.{IsReached}
use Rattle.round_model.specs.Stops.{full_debt, paragraph_count}
use Rattle.idle_queue.specs.Marked.{marked}
use Rattle.idle_queue.proofs.PlainPlaces.{map-of-map, numbers_of, number_in}
use Rattle.idle_queue.proofs.Turns.{live_at-place, length-upwards, length-of-map}
use Rattle.idle_queue.proofs.Starts.{fresh, reached_full}

neq-eqb : (a b : ℕ) → (a ≡ b → ⊥) → (a == b) ≡ false
neq-eqb a b apart = elim (eqb_tells a b) [ inl e ↦ absurd (apart e.1) | inr e ↦ e.0 ]

-- a live paragraph of another number stays as it is
marked-other : (version number : ℕ) (live : Live) → number ≢ live.par → marked version (number ∷ []) live ≡ live
marked-other version number live apart =
    ap (λ (b : Bool). record live { revision = if b || false then version else live.revision }) (neq-eqb number live.par apart)

marked-own : (version number : ℕ) (live : Live) → number ≡ live.par → marked version (number ∷ []) live ≡ record live { revision = version }
marked-own version number live e =
    ap (λ (b : Bool). record live { revision = if b || false then version else live.revision }) (eq-eqb number live.par e)

-- no paragraph of a number below the first one is touched, and none of one past the last
pub marked-below : (version number first count : ℕ) (live : List Live) → map (λ l. l.par) live ≡ upwards first count → number < first → map (marked version (number ∷ [])) live ≡ live
marked-below version number first count [] e below = refl
marked-below version number first zero (l ∷ live) e below = absurd (cc)
marked-below version number first (suc count) (l ∷ live) e below =
    let here : l.par ≡ first = cc e in
    let behind : map (λ l. l.par) live ≡ upwards (first + 1) count = cc e in
    ap (λ (x : Live). x ∷ map (marked version (number ∷ [])) live) (marked-other version number l (λ same. absurd (omega (arith, here, same))))
    ∙ ap (λ (ls : List Live). l ∷ ls) (marked-below version number (first + 1) count live behind (omega arith))

pub marked-above : (version number first count : ℕ) (live : List Live) → map (λ l. l.par) live ≡ upwards first count → first + length live ≤ number → map (marked version (number ∷ [])) live ≡ live
marked-above version number first count [] e above = refl
marked-above version number first zero (l ∷ live) e above = absurd (cc)
marked-above version number first (suc count) (l ∷ live) e above =
    let here : l.par ≡ first = cc e in
    let behind : map (λ l. l.par) live ≡ upwards (first + 1) count = cc e in
    ap (λ (x : Live). x ∷ map (marked version (number ∷ [])) live) (marked-other version number l (λ same. absurd (omega (arith, here, same))))
    ∙ ap (λ (ls : List Live). l ∷ ls) (marked-above version number (first + 1) count live behind (omega arith))

marked-set : (version number first place count : ℕ) (live : List Live) (at : Live) → map (λ l. l.par) live ≡ upwards first count → number ≡ first + place → slice_get live place ≡ Some at
    → map (marked version (number ∷ [])) live ≡ set live place (record at { revision = version })
marked-set version number first place count [] at e is found = absurd (cc)
marked-set version number first place zero (l ∷ live) at e is found = absurd (cc)
marked-set version number first zero (suc count) (l ∷ live) at e is found =
    let here : l.par ≡ first = cc e in
    let behind : map (λ l. l.par) live ≡ upwards (first + 1) count = cc e in
    let same : l ≡ at = cc found in
    ap (λ (x : Live). x ∷ map (marked version (number ∷ [])) live) (marked-own version number l (omega arith))
    ∙ ap (λ (ls : List Live). record l { revision = version } ∷ ls) (marked-below version number (first + 1) count live behind (omega arith))
    ∙ ap (λ (x : Live). record x { revision = version } ∷ live) same
marked-set version number first (suc place) (suc count) (l ∷ live) at e is found =
    let here : l.par ≡ first = cc e in
    let behind : map (λ l. l.par) live ≡ upwards (first + 1) count = cc e in
    ap (λ (x : Live). x ∷ map (marked version (number ∷ [])) live) (marked-other version number l (λ same. absurd (omega (arith, here, same))))
    ∙ ap (λ (ls : List Live). l ∷ ls) (marked-set version number (first + 1) place count live at behind (omega arith) found)

-- the paragraph of a number is touched at its place
pub marked-at : (version number count : ℕ) (live : List Live) (at touched : Live) → map (λ l. l.par) live ≡ upwards 1 count → 1 ≤ number → number - 1 < length live
    → at ≡ get_or live (number - 1) at → touched ≡ record at { revision = version } → set live (number - 1) touched ≡ map (marked version (number ∷ [])) live
marked-at version number count live at touched numbers some within is touches =
    ap (λ (l : Live). set live (number - 1) l) touches
    ∙ sym (marked-set version number 1 (number - 1) count live at numbers (omega arith) (slice_get_read live (length live) (number - 1) at refl within is))

-- one number more
marked_twice : (version number : ℕ) (touched : List ℕ) (live : Live) → marked version (number ∷ []) (marked version touched live) ≡ marked version (touched ++ number ∷ []) live
marked_twice version number touched live =
    ap (λ (r : ℕ). record live { revision = r })
    (either (list_any (λ other. other == live.par) touched) (list_any (λ other. other == live.par) (number ∷ []))
    ∙ ap (λ (b : Bool). if b then version else live.revision) (sym (list_any-append (λ (other : ℕ). other == live.par) touched (number ∷ [])))) where
      either : (b c : Bool) → (if c then version else (if b then version else live.revision)) ≡ (if b || c then version else live.revision)
      either true true = refl
      either true false = refl
      either false true = refl
      either false false = refl

map-by : {X Y : Type 0} (f g : X → Y) → ((x : X) → f x ≡ g x) → (xs : List X) → map f xs ≡ map g xs
map-by f g same [] = refl
map-by {Y = Y} f g same (x ∷ xs) = ap (λ (y : Y). y ∷ map f xs) (same x) ∙ ap (λ (ys : List Y). g x ∷ ys) (map-by f g same xs)

pub marked_more : (version i d : ℕ) (touched : List ℕ) (old now next : List Live) → i < length touched → now ≡ map (marked version (take i touched)) old
    → next ≡ map (marked version (get_or touched i d ∷ [])) now → next ≡ map (marked version (take (i + 1) touched)) old
marked_more version i d touched old now next within e is =
    is ∙ ap (λ (ls : List Live). map (marked version (get_or touched i d ∷ [])) ls) e
    ∙ map-of-map (marked version (get_or touched i d ∷ [])) (marked version (take i touched)) old
    ∙ map-by (λ (l : Live). marked version (get_or touched i d ∷ []) (marked version (take i touched) l)) (marked version (take i touched ++ get_or touched i d ∷ []))
    (λ l. marked_twice version (get_or touched i d) (take i touched) l) old
    ∙ ap (λ (ns : List ℕ). map (marked version ns) old) (sym (take_more touched i d within))

pub marked_none : (version : ℕ) (old : List Live) → old ≡ map (marked version []) old
marked_none version [] = refl
marked_none version (l ∷ old) = ap (λ (ls : List Live). l ∷ ls) (marked_none version old)

pub marked_numbers : (version : ℕ) (touched : List ℕ) (old now : List Live) → now ≡ map (marked version touched) old → map (λ l. l.par) old ≡ upwards 1 (length old)
    → map (λ l. l.par) now ≡ upwards 1 (length now)
marked_numbers version touched old now e numbers =
    ap (λ (ls : List Live). map (λ (l : Live). l.par) ls) e ∙ map-of-map (λ (l : Live). l.par) (marked version touched) old ∙ numbers
    ∙ ap (λ (n : ℕ). upwards 1 n) (sym (ap (length {A = Live}) e ∙ same_length old)) where
      same_length : (ls : List Live) → length (map (marked version touched) ls) ≡ length ls
      same_length [] = refl
      same_length (l ∷ ls) = ap suc (same_length ls)

-- ---- restarts

abbrev after_found : List ℕ → ℕ → ℕ → Option Live → Live
after_found touched version number None = record { par = number; revision = version; keys = [] }
after_found touched version number (Some live) = record live { revision = if list_any (λ other. other == number) touched then version else live.revision }

abbrev after_number : List Live → List ℕ → ℕ → ℕ → Live
after_number old touched version number = after_found touched version number (live_at number old)

after_each : (old : List Live) (touched : List ℕ) (version : ℕ) (rest : List Live) → ((place : ℕ) (l : Live) → slice_get rest place ≡ Some l → live_at l.par old ≡ Some l)
    → map (after_number old touched version) (map (λ l. l.par) rest) ≡ map (marked version touched) rest
after_each old touched version [] here = refl
after_each old touched version (l ∷ rest) here =
    ap (λ (found : Option Live). after_found touched version l.par found ∷ map (after_number old touched version) (map (λ (x : Live). x.par) rest)) (here 0 l refl)
    ∙ ap (λ (ls : List Live). marked version touched l ∷ ls) (after_each old touched version rest (λ place x at. here (suc place) x at))

number_here : (live : List Live) (count place : ℕ) (l : Live) → map (λ l. l.par) live ≡ upwards 1 count → slice_get live place ≡ Some l → l.par ≡ place + 1
number_here live count place l numbers at =
    number_in 1 place (map (λ (x : Live). x.par) live) count l.par numbers (Rattle.std.proofs.lemmas.Option.slice_get-map (λ (x : Live). x.par) live place ∙ ap (Rattle.std.specs.Option.option_map (λ (x : Live). x.par)) at)
    ∙ omega arith

-- the live paragraphs behind a change that leaves the numbers as they are
pub live_after-marked : (doc : Document) → IsPlain doc → (old : List Live) (touched : List ℕ) (version : ℕ) → map (λ l. l.par) old ≡ map number_of (paragraphs doc)
    → live_after old doc touched version ≡ map (marked version touched) old
live_after-marked doc plain old touched version same =
    let numbers : map (λ (l : Live). l.par) old ≡ upwards 1 (paragraph_count doc) = same ∙ numbers_of doc plain in
    sym (map-of-map (after_number old touched version) number_of (paragraphs doc))
    ∙ ap (λ (ns : List ℕ). map (after_number old touched version) ns) (sym same)
    ∙ after_each old touched version old (λ place l at. live_at-place l.par place (paragraph_count doc) old numbers (number_here old (paragraph_count doc) place l numbers at) ∙ at)

Each-marked : (version : ℕ) (touched : List ℕ) (live : List Live) → Each (λ (l : Live). length l.keys ≤ most_keys) live → Each (λ (l : Live). length l.keys ≤ most_keys) (map (marked version touched) live)
Each-marked version touched [] each = tt
Each-marked version touched (l ∷ live) each = (each.0, Each-marked version touched live each.1)

-- what the code has computed behind a restart
pub restart-is : (old new : Idle) (doc : Document) → IsPlain doc → (touched : List ℕ) (restyling : Bool) (version epoch count debt : ℕ) (live : List Live)
    → map (λ l. l.par) old.live ≡ map number_of (paragraphs doc) → live ≡ map (marked version touched) old.live → epoch ≡ (if restyling then version else old.epoch) → count ≡ paragraph_count doc
    → debt ≡ full_debt count → new ≡ record { epoch = epoch; live = live; debt = debt } → new ≡ restarted old doc touched restyling version
restart-is old new doc plain touched restyling version epoch count debt live same marks styled counted full is =
    is
    ∙ ap (λ (e : ℕ). record { epoch = e; live = live; debt = debt }) styled
    ∙ ap (λ (ls : List Live). record { epoch = if restyling then version else old.epoch; live = ls; debt = debt }) (marks ∙ sym (live_after-marked doc plain old.live touched version same))
    ∙ ap (λ (d : ℕ). record { epoch = if restyling then version else old.epoch; live = live_after old.live doc touched version; debt = d }) (full ∙ ap full_debt counted)

pub reached_restarted : (old : Idle) (doc : Document) → IsPlain doc → (touched : List ℕ) (restyling : Bool) (version : ℕ) → map (λ l. l.par) old.live ≡ map number_of (paragraphs doc)
    → Each (λ (l : Live). length l.keys ≤ most_keys) old.live → IsReached doc (restarted old doc touched restyling version)
reached_restarted old doc plain touched restyling version same few =
    let after = live_after-marked doc plain old.live touched version same in
    reached_full doc (restarted old doc touched restyling version) plain
    (ap (λ (ls : List Live). map (λ (l : Live). l.par) ls) after ∙ map-of-map (λ (l : Live). l.par) (marked version touched) old.live ∙ same)
    refl
    (subst (λ (ls : List Live). Each (λ (l : Live). length l.keys ≤ most_keys) ls) (sym after) (Each-marked version touched old.live few))

pub same_numbers : (doc : Document) → IsPlain doc → (items live : List Live) → items ≡ live → map (λ l. l.par) live ≡ map number_of (paragraphs doc) → map (λ l. l.par) items ≡ upwards 1 (length items)
same_numbers doc plain items live e same =
    let numbers : map (λ (l : Live). l.par) items ≡ upwards 1 (paragraph_count doc) = ap (λ (ls : List Live). map (λ (l : Live). l.par) ls) e ∙ same ∙ numbers_of doc plain in
    let count : length items ≡ paragraph_count doc = sym (length-of-map (λ (l : Live). l.par) items) ∙ ap (length {A = ℕ}) numbers ∙ length-upwards 1 (paragraph_count doc) in
    numbers ∙ ap (λ (n : ℕ). upwards 1 n) (sym count)
