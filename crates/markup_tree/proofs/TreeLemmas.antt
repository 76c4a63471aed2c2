-- The one tree of a text, and its one first offence.
use Rattle.std.proofs.Common.{◌≡◌, ◌⊎◌, ℕ, List, [], ◌∷◌, ◌++◌, map, refl, ap, sym, ◌∙◌, subst, inl, inr, append_assoc, length, Option, Some, None, Result, Ok, Err, IfOk, IfErr, IsUtf8}
use Rattle.std.proofs.lemmas.List.{append-nil}
use Rattle.markup_nodes.specs.declared.tree.Elem.{Elem}
use Rattle.markup_nodes.specs.declared.tree.Tree.{Tree}
use Rattle.markup_tree.specs.declared.reader.Offence.{Offence}
use Rattle.markup_tree.specs.declared.reader.ReadFault.{ReadFault}
use Rattle.markup_tree.specs.declared.reader.ReadFault.TheVariants as fault
use Rattle.markup_tree.specs.declared.part.Part.TheVariants.{After}
use Rattle.markup_tree.specs.declared.reader.OffenceKind.{OffenceKind}
use Rattle.std.specs.Str.{IsValidUpTo}
use Rattle.std.proofs.lemmas.Str.{utf8_valid_len-IsValidUpTo}
use Rattle.std.proofs.Math.Seq.{take-length}
use Rattle.markup_tree.specs.Documents.{Event, Opens, Closes, Stands, events_of, Spot, Follows, Leads, Reaches, Stops, broken, unnamed, refused, cut, start_of, place_of, behind, refusal, IsSpelling, IsFirstOffence, Spells, HasOffence, IsFaultIn, IsTreeUnlessMemory, IsOffenceUnlessMemory}
use Rattle.markup_parts.specs.Outcomes.{IsBroken, IsCut}
use Rattle.markup_tree.specs.Pieces.{Saying, IsConstruct}
use Rattle.markup_tree.proofs.ConstructLemmas.{construct_cut}
use Rattle.markup_tree.proofs.ConstructOnceLemmas.{construct_once}
use Rattle.markup_tree.proofs.EventLemmas.{tree_known}

-- the text ends behind the root
abbrev IsComplete : Spot → Type 0
IsComplete spot = (spot.part ≡ After) × (spot.rest ≡ [])

-- reading ends at a spot: the document is complete, or it has an offence there
abbrev IsEnd : List ℕ → Spot → Type 0
IsEnd whole spot = IsComplete spot ⊎ ((offence : Offence) × Stops whole spot offence)

-- one spot follows another
other_none : {A : Type 0} {x : A} → Some x ≡ None → ⊥
other_none e = cc

some_same : {A : Type 0} {x y : A} → Some x ≡ Some y → x ≡ y
some_same e = cc

behind_same : (whole : List ℕ) (spot : Spot) (saying other : Saying) (rest after : List ℕ) → (Some saying ≡ Some other) × (rest ≡ after)
    → behind (place_of whole spot.rest) spot saying rest ≡ behind (place_of whole spot.rest) spot other after
behind_same whole spot saying other rest after e =
    ap (λ (s : Saying). behind (place_of whole spot.rest) spot s rest) (some_same e.0) ∙ ap (λ (t : List ℕ). behind (place_of whole spot.rest) spot other t) e.1

follows_once : (whole : List ℕ) (spot next other : Spot) → Follows whole spot next → Follows whole spot other → next ≡ other
follows_once whole spot next other f g =
    some_same (sym f.3 ∙ (behind_same whole spot f.0 g.0 f.1 g.1 (construct_once spot.part spot.rest (Some f.0) (Some g.0) f.1 g.1 f.2 g.2) ∙ g.3))

-- what does not stand there
not_broken : (spot : Spot) (value : Option Saying) (rest : List ℕ) → IsBroken (IsConstruct spot.part) spot.rest → IsConstruct spot.part spot.rest value rest → ⊥
not_broken spot value rest b h = b [] value rest (subst (λ (t : List ℕ). IsConstruct spot.part t value rest) (sym (append-nil spot.rest)) h)

not_ended : (spot : Spot) (value : Option Saying) (rest : List ℕ) → IsComplete spot → IsConstruct spot.part spot.rest value rest → ⊥
not_ended spot value rest e h = (construct_cut spot.part e.1).none value rest h

broken_cut : (spot : Spot) → IsBroken (IsConstruct spot.part) spot.rest → IsCut (IsConstruct spot.part) spot.rest → ⊥
broken_cut spot b c = b c.more c.value c.after c.whole

unnamed_refused : (spot : Spot) (saying : Saying) (rest after : List ℕ) → IsConstruct spot.part spot.rest None rest → IsConstruct spot.part spot.rest (Some saying) after → ⊥
unnamed_refused spot saying rest after h k = other_none (construct_once spot.part spot.rest (Some saying) None after rest k h).0

-- nothing follows where reading stops
stops_follows : (whole : List ℕ) (spot next : Spot) (o : Offence) → Stops whole spot o → Follows whole spot next → ⊥
stops_follows whole spot next o (broken b o' e) f = not_broken spot (Some f.0) f.1 b f.2
stops_follows whole spot next o (unnamed rest h o' e) f = unnamed_refused spot f.0 rest f.1 h f.2
stops_follows whole spot next o (refused saying rest h nothing o' e) f =
    other_none (sym f.3 ∙ (behind_same whole spot f.0 saying f.1 rest (construct_once spot.part spot.rest (Some f.0) (Some saying) f.1 rest f.2 h) ∙ nothing))
stops_follows whole spot next o (cut c never o' e) f = c.none (Some f.0) f.1 f.2

stops_complete : (whole : List ℕ) (spot : Spot) (o : Offence) → Stops whole spot o → IsComplete spot → ⊥
stops_complete whole spot o (broken b o' e) done = let c = construct_cut spot.part done.1 in b (c.more ++ []) c.value [] (c.whole [])
stops_complete whole spot o (unnamed rest h o' e) done = not_ended spot None rest done h
stops_complete whole spot o (refused saying rest h nothing o' e) done = not_ended spot (Some saying) rest done h
stops_complete whole spot o (cut c never o' e) done = never done

-- one offence at a spot
stops_once : (whole : List ℕ) (spot : Spot) (one other : Offence) → Stops whole spot one → Stops whole spot other → one ≡ other
stops_once whole spot one other (broken b o e) (broken d p f) = e ∙ sym f
stops_once whole spot one other (broken b o e) (unnamed rest h p f) = absurd (not_broken spot None rest b h)
stops_once whole spot one other (broken b o e) (refused saying rest h nothing p f) = absurd (not_broken spot (Some saying) rest b h)
stops_once whole spot one other (broken b o e) (cut c never p f) = absurd (broken_cut spot b c)
stops_once whole spot one other (unnamed rest h o e) (broken d p f) = absurd (not_broken spot None rest d h)
stops_once whole spot one other (unnamed rest h o e) (unnamed after k p f) = e ∙ sym f
stops_once whole spot one other (unnamed rest h o e) (refused saying after k nothing p f) = absurd (unnamed_refused spot saying rest after h k)
stops_once whole spot one other (unnamed rest h o e) (cut c never p f) = absurd (c.none None rest h)
stops_once whole spot one other (refused saying rest h nothing o e) (broken d p f) = absurd (not_broken spot (Some saying) rest d h)
stops_once whole spot one other (refused saying rest h nothing o e) (unnamed after k p f) = absurd (unnamed_refused spot saying after rest k h)
stops_once whole spot one other (refused saying rest h nothing o e) (refused found after k never p f) =
    e ∙ (ap (λ (s : Saying). record { kind = refusal s; place = place_of whole spot.rest }) (some_same (construct_once spot.part spot.rest (Some saying) (Some found) rest after h k).0) ∙ sym f)
stops_once whole spot one other (refused saying rest h nothing o e) (cut c never p f) = absurd (c.none (Some saying) rest h)
stops_once whole spot one other (cut c never o e) (broken d p f) = absurd (broken_cut spot d c)
stops_once whole spot one other (cut c never o e) (unnamed rest h p f) = absurd (c.none None rest h)
stops_once whole spot one other (cut c never o e) (refused saying rest h nothing p f) = absurd (c.none (Some saying) rest h)
stops_once whole spot one other (cut c never o e) (cut d again p f) = e ∙ sym f

-- the one spot at which reading ends
end_follows : (whole : List ℕ) (spot next : Spot) → IsEnd whole spot → Follows whole spot next → ⊥
end_follows whole spot next (inl complete) f = not_ended spot (Some f.0) f.1 complete f.2
end_follows whole spot next (inr stopped) f = stops_follows whole spot next stopped.0 stopped.1 f

one_way : (whole : List ℕ) (spot last other : Spot) (between among : List Spot) → Leads whole spot between last → Leads whole spot among other → IsEnd whole last → IsEnd whole other → last ≡ other
one_way whole spot last other [] [] l m e f = sym l ∙ m
one_way whole spot last other [] (next ∷ more) l m e f = absurd (end_follows whole spot next (subst (IsEnd whole) (sym l) e) m.0)
one_way whole spot last other (next ∷ more) [] l m e f = absurd (end_follows whole spot next (subst (IsEnd whole) (sym m) f) l.0)
one_way whole spot last other (next ∷ more) (found ∷ others) l m e f =
    let same = follows_once whole spot next found l.0 m.0 in
    one_way whole found last other more others (subst (λ (s : Spot). Leads whole s more last) same l.1) m.1 e f

pub one_end : {whole : List ℕ} {last other : Spot} → Reaches whole last → Reaches whole other → IsEnd whole last → IsEnd whole other → last ≡ other
one_end {whole} {last} {other} r s e f = one_way whole (start_of whole) last other r.0 s.0 r.1 s.1 e f

-- one tree, or one first offence
pub one_spelling : {whole : List ℕ} {one other : Elem} → IsSpelling whole one → IsSpelling whole other → one ≡ other
one_spelling {whole} {one} {other} a b =
    let same = one_end a.reached b.reached (inl (a.part, a.ended)) (inl (b.part, b.ended)) in
    tree_known one other (sym a.events ∙ (ap (λ (s : Spot). s.events) same ∙ b.events))

pub one_first : {whole : List ℕ} {one other : Offence} → IsFirstOffence whole one → IsFirstOffence whole other → one ≡ other
one_first {whole} {one} {other} a b =
    let same = one_end a.reached b.reached (inr (one, a.stops)) (inr (other, b.stops)) in
    stops_once whole b.spot one other (subst (λ (s : Spot). Stops whole s one) same a.stops) b.stops

pub spelled_apart : {whole : List ℕ} {root : Elem} {offence : Offence} → IsSpelling whole root → IsFirstOffence whole offence → ⊥
spelled_apart {whole} {root} {offence} a b =
    let same = one_end a.reached b.reached (inl (a.part, a.ended)) (inr (offence, b.stops)) in
    stops_complete whole b.spot offence b.stops (subst IsComplete same (a.part, a.ended))

-- the same of bytes
abbrev tree_of : Elem → Tree
tree_of root = record { root = root }

pub one_tree : (bytes : List ℕ) (one other : Tree) → Spells bytes one → Spells bytes other → one ≡ other
one_tree bytes one other a b = ap tree_of (one_spelling a.1 b.1)

invalid_apart : (bytes : List ℕ) (n : ℕ) → IsUtf8 bytes → IsValidUpTo bytes n → ⊥
invalid_apart bytes n u v = v.longest (length bytes) v.short (subst IsUtf8 (sym (take-length bytes)) u)

pub one_offence : (bytes : List ℕ) (one other : Offence) → HasOffence bytes one → HasOffence bytes other → one ≡ other
one_offence bytes one other (inl h) (inl k) =
    ap (λ (x : OffenceKind). record { kind = x; place = one.place }) (h.0 ∙ sym k.0)
    ∙ ap (λ (x : ℕ). record { kind = other.kind; place = x }) (sym (utf8_valid_len-IsValidUpTo bytes one.place h.1) ∙ utf8_valid_len-IsValidUpTo bytes other.place k.1)
one_offence bytes one other (inl h) (inr k) = absurd (invalid_apart bytes one.place k.0 h.1)
one_offence bytes one other (inr h) (inl k) = absurd (invalid_apart bytes other.place h.0 k.1)
one_offence bytes one other (inr h) (inr k) = one_first h.1 k.1

pub tree_apart : (bytes : List ℕ) (tree : Tree) (offence : Offence) → Spells bytes tree → HasOffence bytes offence → ⊥
tree_apart bytes tree offence s (inl h) = invalid_apart bytes offence.place s.0 h.1
tree_apart bytes tree offence s (inr h) = spelled_apart s.1 h.1

-- an answer that is right is the only one
pub answer_only : (bytes : List ℕ) (result : Result Tree ReadFault) → IfOk result (Spells bytes) → IfErr result (IsFaultIn bytes) → (tree : Tree) → Spells bytes tree → IsTreeUnlessMemory tree result
answer_only bytes (Ok read) right wrong tree s = one_tree bytes read tree right s
answer_only bytes (Err (fault.Offence offence)) right wrong tree s = absurd (tree_apart bytes tree offence s wrong)
answer_only bytes (Err fault.NoMemory) right wrong tree s = refl

pub answer_told : (bytes : List ℕ) (result : Result Tree ReadFault) → IfOk result (Spells bytes) → IfErr result (IsFaultIn bytes) → (offence : Offence) → HasOffence bytes offence
    → IsOffenceUnlessMemory offence result
answer_told bytes (Ok read) right wrong offence h = absurd (tree_apart bytes read offence right h)
answer_told bytes (Err (fault.Offence told)) right wrong offence h = one_offence bytes told offence wrong h
answer_told bytes (Err fault.NoMemory) right wrong offence h = tt
