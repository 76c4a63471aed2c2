-- A text begins with one construct of a kind at most.
use Rattle.std.proofs.Common.{◌≡◌, ℕ, List, [], ◌∷◌, Bool, true, false, ◌==◌, refl, ap, sym, ◌∙◌, subst, inl, inr, Option, Some, None, codes}
use Rattle.std.proofs.lemmas.List.{append-nil, append_cancel_left}
use Rattle.markup_parts.specs.Chars.{is_legal, is_space, number_of, legal_character, entity_of}
use Rattle.markup_parts.specs.Constructs.{IsRun, IsName, IsGap, IsText, IsLiteral, IsNumber, IsEntity, IsNumeric, IsReference, IsUpTo, IsComment}
use Rattle.markup_tags.specs.Instructions.{IsInstructionRest, IsInstruction, IsFirstInstruction}
use Rattle.markup_parts.specs.Outcomes.{Construct, IsRead}
use Rattle.markup_parts.proofs.LiteralLemmas.{head_is, tail_is, true_false, literal_feed, literal_alone, literal_legal}
use Rattle.markup_parts.proofs.ReadsLemmas.{Agrees}
use Rattle.markup_parts.proofs.ReferenceLemmas.{numeric_agrees, hexadecimal_agrees}
use Rattle.markup_parts.proofs.RunLemmas.{run_same}
use Rattle.markup_tags.proofs.InstructionLemmas.{declaration_on}

-- two constructs at one text have one value and end at one place
abbrev pub Once : {V : Type 0} → Construct V → Type 0
Once {V} Is = (text : List ℕ) (one other : Option V) (after behind : List ℕ) → Is text one after → Is text other behind → (one ≡ other) × (after ≡ behind)

-- what is read is the one that stands there
pub read_once : {V : Type 0} {Is : Construct V} {text after behind : List ℕ} {value : V} {other : Option V} → IsRead Is text value after → Is text other behind → (other ≡ Some value) × (behind ≡ after)
read_once {Is = Is} {text = text} {after = after} {behind = behind} {other = other} r h =
    let q = r.only [] other behind (subst (λ (t : List ℕ). Is t other behind) (sym (append-nil text)) h) in
    (q.0, q.1 ∙ append-nil after)

-- where constructs agree, the outer one is an inner one
pub agrees_back : {V : Type 0} {Inner Outer : Construct V} {rest text after : List ℕ} {value : Option V} → Agrees Inner Outer rest text → Outer text value after → Inner rest value after
agrees_back {Inner = Inner} {Outer = Outer} {rest = rest} {text = text} {after = after} {value = value} k h =
    subst (λ (t : List ℕ). Inner t value after) (append-nil rest) (k.only [] value after (subst (λ (t : List ℕ). Outer t value after) (sym (append-nil text)) h))

-- runs and names
pub run_alone : {test : ℕ → Bool} {text run other after behind : List ℕ} → IsRun test text run after → IsRun test text other behind → (run ≡ other) × (after ≡ behind)
run_alone {test} {text} {run} {other} {after} {behind} r s = run_same test run other after behind r.all s.all r.ends s.ends (sym r.parts ∙ s.parts)

pub name_alone : {text name other after behind : List ℕ} → IsName text name after → IsName text other behind → (name ≡ other) × (after ≡ behind)
name_alone n m = run_alone n.run m.run

pub gap_alone : {text after behind : List ℕ} → IsGap text after → IsGap text behind → after ≡ behind
gap_alone g h = (run_alone g.1 h.1).1

-- a text that is given
pub text_once : (front : List ℕ) → Once (IsText front)
text_once front text None other after behind h k = absurd h
text_once front text (Some unit) None after behind h k = absurd k
text_once front text (Some unit) (Some other) after behind h k = (refl, append_cancel_left front after behind (sym h ∙ k))

-- a literal character
pub literal_once : Once IsLiteral
literal_once text None other after behind h k = absurd h
literal_once text (Some c) other after behind (inl h) k =
    let q = read_once (literal_legal c after h.1 h.2) (subst (λ (t : List ℕ). IsLiteral t other behind) h.0 k) in
    (sym q.0, sym q.1)
literal_once text (Some c) other after behind (inr (inl h)) k =
    let q = read_once (literal_feed after) (subst (λ (t : List ℕ). IsLiteral t other behind) h.0 k) in
    (ap Some h.1 ∙ sym q.0, sym q.1)
literal_once text (Some c) other [] behind (inr (inr h)) k = absurd h.1
literal_once text (Some c) other (d ∷ ds) behind (inr (inr h)) k =
    let q = read_once (literal_alone d ds (λ e. true_false (ap (λ (x : ℕ). x == 0xa) e) h.1)) (subst (λ (t : List ℕ). IsLiteral t other behind) h.0 k) in
    (ap Some h.2 ∙ sym q.0, sym q.1)

-- references
pub number_once : (base : ℕ) → Once (IsNumber base)
number_once base text one other after behind h k =
    let e = run_alone h.run k.run in
    (h.value ∙ (ap (λ (digits : List ℕ). legal_character (number_of base digits)) e.0 ∙ sym k.value), tail_is e.1)

pub entity_once : Once IsEntity
entity_once text one other after behind h k =
    let e = name_alone h.is_name k.is_name in
    (h.value ∙ (ap entity_of e.0 ∙ sym k.value), tail_is e.1)

pub numeric_once : Once IsNumeric
numeric_once text one other after behind (inl h) (inl k) = number_once 10 text one other after behind h k
numeric_once text one other after behind (inr h) k = number_once 16 h.0 one other after behind h.2 (agrees_back (hexadecimal_agrees h.1) k)
numeric_once text one other after behind (inl h) (inr k) = number_once 16 k.0 one other after behind (agrees_back (hexadecimal_agrees k.1) (inl h)) k.2

pub reference_once : Once IsReference
reference_once text one other after behind (inl h) (inl k) = entity_once text one other after behind h k
reference_once text one other after behind (inr h) k = numeric_once h.0 one other after behind h.2 (agrees_back (numeric_agrees h.1) k)
reference_once text one other after behind (inl h) (inr k) = numeric_once k.0 one other after behind (agrees_back (numeric_agrees k.1) (inl h)) k.2

-- characters up to an end
pub up_to_once : (test : ℕ → Bool) (end : List ℕ) → Once (IsUpTo test end)
up_to_once test end text None other after behind h k = absurd h
up_to_once test end text (Some body) None after behind h k = absurd k
up_to_once test end text (Some body) (Some other) after behind h k = let e = go text body other h k in (ap Some e.0, e.1) where
  go : (text body other : List ℕ) → IsUpTo test end text (Some body) after → IsUpTo test end text (Some other) behind → (body ≡ other) × (after ≡ behind)
  go text [] [] h k = (refl, append_cancel_left end after behind (sym h ∙ k))
  go text [] (d ∷ ds) h k = absurd (k.0 after h)
  go text (c ∷ cs) [] h k = absurd (h.0 behind k)
  go text (c ∷ cs) (d ∷ ds) h k =
      let same = sym h.2.1 ∙ k.2.1 in
      let e = go h.2.0 cs ds h.2.2 (subst (λ (t : List ℕ). IsUpTo test end t (Some ds) behind) (sym (tail_is same)) k.2.2) in
      (ap (λ (x : ℕ). x ∷ cs) (head_is same) ∙ ap (λ (xs : List ℕ). d ∷ xs) e.0, e.1)

pub comment_once : Once IsComment
comment_once text None other after behind h k = absurd h
comment_once text (Some unit) None after behind h k = absurd k
comment_once text (Some unit) (Some other) after behind h k =
    (refl, tail_is (up_to_once is_legal (codes "--") text (Some h.0) (Some k.0) (0x3e ∷ after) (0x3e ∷ behind) h.1 k.1).1)

-- instructions
question_no_space : is_space 0x3f ≡ false
unfolding is_space
question_no_space = refl

pub instruction_rest_once : (test : ℕ → Bool) → Once (IsInstructionRest test)
instruction_rest_once test text None other after behind h k = absurd h
instruction_rest_once test text (Some unit) None after behind h k = absurd k
instruction_rest_once test text (Some unit) (Some other) after behind h k = (refl, go h k) where
  go : IsInstructionRest test text (Some unit) after → IsInstructionRest test text (Some other) behind → after ≡ behind
  go (inl h) (inl k) = append_cancel_left (codes "?>") after behind (sym h ∙ k)
  go (inl h) (inr k) = absurd (true_false (ap is_space (head_is (sym h ∙ k.4)) ∙ k.3) question_no_space)
  go (inr h) (inl k) = absurd (true_false (ap is_space (head_is (sym k ∙ h.4)) ∙ h.3) question_no_space)
  go (inr h) (inr k) =
      (up_to_once test (codes "?>") h.1 (Some h.2) (Some k.2) after behind h.5
      (subst (λ (t : List ℕ). IsUpTo test (codes "?>") t (Some k.2) behind) (tail_is (sym k.4 ∙ h.4)) k.5)).1

pub instruction_once : Once IsInstruction
instruction_once text one other after behind h k =
    instruction_rest_once is_legal h.1 one other after behind h.4
    (subst (λ (t : List ℕ). IsInstructionRest is_legal t other behind) (sym (name_alone h.2 k.2).1) k.4)

pub first_instruction_once : Once IsFirstInstruction
first_instruction_once text one other after behind (inl h) (inl k) = instruction_once text one other after behind h k
first_instruction_once text one other after behind (inr h) k =
    instruction_rest_once (λ c. true) h.0 one other after behind h.2 (agrees_back (declaration_on h.1) k)
first_instruction_once text one other after behind (inl h) (inr k) =
    instruction_rest_once (λ c. true) k.0 one other after behind (agrees_back (declaration_on k.1) (inl h)) k.2
