-- The answers of the reader.
use Rattle.std.proofs.Common.{◌≡◌, ℕ, List, [], ◌∷◌, ◌++◌, length, nat_lt, cond, inr, Result, Ok, Err, IfOk, IfErr, Bool, true, false, chars, IsUtf8, refl, ap, sym, ◌∙◌, subst, Option, Some, None, arith}
use Rattle.markup_tree.specs.declared.part.Part.TheVariants.{Start, Before, Inside, After}
use Rattle.markup_tree.specs.declared.reader.ReadFault.{ReadFault}
use Rattle.markup_tree.specs.declared.reader.ReadFault.TheVariants as fault
use Rattle.markup_tree.specs.declared.part.Part.{Part}
use Rattle.markup_tags.specs.declared.tags.Tag.{Tag}
use Rattle.markup_nodes.specs.declared.tree.Elem.{Elem}
use Rattle.markup_nodes.specs.declared.tree.Tree.{Tree}
use Rattle.markup_tree.specs.Documents.{Event, Opens, Closes, Spot, Reaches, place_of, behind, part_behind, part_within, IsSpelling, IsFirstOffence, Spells, IsFaultIn}
use Rattle.markup_parts.specs.Outcomes.{IsRead}
use Rattle.markup_tree.specs.Pieces.{Saying, Silent, Begins, Ends, Holds, Declares, IsInProlog, IsConstruct}
use Rattle.markup_tree.specs.Stacks.{name_of, spot_in, spot_after, IsAtRoot, IsHeading, IsFaultOf}
use Rattle.markup_tree.proofs.SayingLemmas.{Fits, construct_fits}
use Rattle.markup_tree.proofs.EventLemmas.{events-begun}
use Rattle.markup_tree.proofs.StackLemmas.{begun_heading}
use Rattle.markup_tree.proofs.WayLemmas.{stands, on_step}

-- the root is open
pub inside_open : {A : Type 0} → Inside ≡ After → A
inside_open e = absurd (cc)

-- what is read fits its part
pub read_fits : (spot : Spot) (saying : Saying) {rest : List ℕ} → IsRead (IsConstruct spot.part) spot.rest saying rest → Fits spot.part saying
read_fits spot saying {rest} r =
    construct_fits spot.part spot.rest saying rest
    (stands spot saying rest r)

-- a list of no length
pub nothing_below : {A : Type 0} (xs : List A) → length xs ≡ 0 → xs ≡ []
nothing_below [] e = refl
nothing_below (x ∷ xs) e = absurd (omega (arith, e))

-- what fits before the root and behind it
pub prolog_ends : (part : Part) (name : List ℕ) → IsInProlog part → Fits part (Ends name) → ⊥
prolog_ends Start name p f = f
prolog_ends Before name p f = f
prolog_ends Inside name p f = p
prolog_ends After name p f = p

pub prolog_holds : (part : Part) (cs : List ℕ) → IsInProlog part → Fits part (Holds cs) → ⊥
prolog_holds Start cs p f = f
prolog_holds Before cs p f = f
prolog_holds Inside cs p f = p
prolog_holds After cs p f = p

pub prolog_behind : (part : Part) → IsInProlog part → part_behind part ≡ Before
prolog_behind Start p = refl
prolog_behind Before p = refl
prolog_behind Inside p = absurd p
prolog_behind After p = absurd p

pub after_silent : (saying : Saying) → Fits After saying → saying ≡ Silent
after_silent Silent f = refl
after_silent (Begins tag) f = absurd f
after_silent (Ends name) f = absurd f
after_silent (Holds cs) f = absurd f
after_silent Declares f = absurd f

-- one more construct behind the root
pub on_silent : (whole rest : List ℕ) {after : List ℕ} (root : Elem) {saying : Saying} → IsRead (IsConstruct After) rest saying after → Reaches whole (spot_after root rest) → Reaches whole (spot_after root after)
on_silent whole rest {after} root {saying} r w =
    on_step whole (spot_after root rest) saying after r w (spot_after root after)
    (ap (λ (s : Saying). behind (place_of whole rest) (spot_after root rest) s after) (after_silent saying (read_fits (spot_after root rest) saying r)))

-- from the tag of the root
module _ (tag : Tag) (rest : List ℕ) where
  abbrev behind_root_tag : ℕ → Bool → List (List ℕ) → List Event → Option Spot
  behind_root_tag place closed names events =
      cond (nat_lt (length names) 200)
      (Some (cond closed
      (record { part = part_within names; rest = rest; open_names = names; events = events ++ Opens place tag.name tag.attrs ∷ Closes ∷ [] })
      (record { part = Inside; rest = rest; open_names = tag.name ∷ names; events = events ++ Opens place tag.name tag.attrs ∷ [] })))
      None

  root_tag : {whole : List ℕ} {place : ℕ} (at : IsAtRoot whole tag place rest) (closed : Bool) → tag.closed ≡ closed
      → behind (place_of whole at.spot.rest) at.spot (Begins tag) rest ≡ behind_root_tag place closed [] []
  root_tag {whole} {place} at closed is =
      ap (λ (p : ℕ). behind_root_tag p tag.closed at.spot.open_names at.spot.events) (sym at.place_is)
      ∙ (ap (λ (b : Bool). behind_root_tag place b at.spot.open_names at.spot.events) is
      ∙ (ap (λ (names : List (List ℕ)). behind_root_tag place closed names at.spot.events) at.no_names
      ∙ ap (λ (events : List Event). behind_root_tag place closed [] events) at.no_events))

  pub root_closed : {whole : List ℕ} {place : ℕ} {root : Elem} → IsAtRoot whole tag place rest → tag.closed ≡ true → IsHeading tag place root → Reaches whole (spot_after root rest)
  root_closed {whole} {place} {root} at closed heading =
      on_step whole at.spot (Begins tag) rest at.read at.reached (spot_after root rest)
      (root_tag at true closed ∙ ap (λ (events : List Event). Some (record { part = After; rest = rest; open_names = []; events = events }))
      (sym (events-begun root ∙ ap (λ (t : List Event). t ++ Closes ∷ []) (begun_heading tag place root heading))))

  pub root_open : {whole : List ℕ} {place : ℕ} {root : Elem} → IsAtRoot whole tag place rest → tag.closed ≡ false → IsHeading tag place root → Reaches whole (spot_in [] root rest)
  root_open {whole} {place} {root} at closed heading =
      on_step whole at.spot (Begins tag) rest at.read at.reached (spot_in [] root rest)
      (root_tag at false closed
      ∙ (ap (λ (name : List ℕ). Some (record { part = Inside; rest = rest; open_names = name ∷ []; events = Opens place tag.name tag.attrs ∷ [] })) (sym heading.name_is)
      ∙ ap (λ (events : List Event). Some (record { part = Inside; rest = rest; open_names = name_of root ∷ []; events = events })) (sym (begun_heading tag place root heading))))

-- the answers for the characters of bytes are those for the bytes
pub text_read : {bytes whole : List ℕ} (result : Result Tree ReadFault) → whole ≡ bytes → IsUtf8 bytes → IfOk result (λ tree. IsSpelling (chars whole) tree.root) → IfOk result (Spells bytes)
text_read (Ok tree) e u spelled = (u, subst (λ (t : List ℕ). IsSpelling (chars t) tree.root) e spelled)
text_read (Err told) e u spelled = tt

pub text_fault : {bytes whole : List ℕ} (result : Result Tree ReadFault) → whole ≡ bytes → IsUtf8 bytes → IfErr result (IsFaultOf (chars whole)) → IfErr result (IsFaultIn bytes)
text_fault (Ok tree) e u first = tt
text_fault (Err (fault.Offence offence)) e u first = inr (u, subst (λ (t : List ℕ). IsFirstOffence (chars t) offence) e first)
text_fault (Err fault.NoMemory) e u first = tt
