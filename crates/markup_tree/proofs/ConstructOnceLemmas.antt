-- A text begins with one construct of a document at most.
use Rattle.std.proofs.Common.{◌≡◌, ◌⊎◌, ◌==◌, ℕ, List, [], ◌∷◌, ◌++◌, refl, ap, sym, ◌∙◌, subst, inl, inr, codes, Option, Some, None}
use Rattle.std.proofs.lemmas.List.{append_cancel_left}
use Rattle.std.specs.Option.{option_map}
use Rattle.markup_parts.specs.Chars.{is_legal}
use Rattle.markup_parts.specs.Constructs.{EndsBefore, IsComment}
use Rattle.markup_tags.specs.Tags.{IsTag}
use Rattle.markup_parts.specs.Outcomes.{Construct}
use Rattle.markup_tree.specs.Pieces.{Saying, Begins, Ends, Holds, Declares, Behind, ◌or◌, silent, line_ends, IsBracket, IsOther, IsBlank, IsPlain, IsSkipped, IsSpecial, IsElementTag, IsMarkup, IsConstruct}
use Rattle.markup_tree.specs.declared.part.Part.{Part}
use Rattle.markup_tree.specs.declared.part.Part.TheVariants.{Start, Before, Inside, After}
use Rattle.markup_tree.proofs.ConstructLemmas.{declared_dashes, markup_bang, markup_question, inside_end, construct_markup, inside_reference, inside_bracket}
use Rattle.markup_parts.proofs.LiteralLemmas.{tail_is, true_false}
use Rattle.markup_tree.proofs.OnceLemmas.{Once, agrees_back, text_once, literal_once, reference_once, up_to_once, comment_once, instruction_once, first_instruction_once}
use Rattle.markup_tree.proofs.TagOnceLemmas.{tag_once, end_tag_once}

-- a construct behind a given text
behind_once : {V : Type 0} {Is : Construct V} (front : List ℕ) (says : V → Saying) → Once Is → Once (Behind front Is says)
behind_once {V} {Is} front says inner text one other after behind h k =
    let rests = append_cancel_left front h.rest k.rest (sym h.text_is ∙ k.text_is) in
    let e = inner h.rest h.value k.value after behind h.is (subst (λ (t : List ℕ). Is t k.value behind) (sym rests) k.is) in
    (h.saying_is ∙ (ap (option_map says) e.0 ∙ sym k.saying_is), e.1)

-- what is not markup
blank_once : Once IsBlank
blank_once text one other after behind h k = (h.3 ∙ sym k.3, tail_is (sym h.2 ∙ k.2))

bracket_apart : (text : List ℕ) (saying : Saying) (after behind : List ℕ) → IsBracket text (Some saying) after → IsBracket text None behind → ⊥
bracket_apart text saying after behind h k = go h.2 (tail_is (sym h.0 ∙ k)) where
  one_ends : (after : List ℕ) → EndsBefore (λ c. c == 0x5d) after → after ≡ 0x5d ∷ 0x3e ∷ behind → ⊥
  one_ends after x e = true_false refl (subst (EndsBefore (λ c. c == 0x5d)) e x)

  two_end : (after : List ℕ) → EndsBefore (λ c. c == 0x3e) after → after ≡ 0x3e ∷ behind → ⊥
  two_end after x e = true_false refl (subst (EndsBefore (λ c. c == 0x3e)) e x)

  go : EndsBefore (λ c. c == 0x5d) after ⊎ ((rest : List ℕ) × (after ≡ codes "]" ++ rest) × EndsBefore (λ c. c == 0x3e) rest) → after ≡ 0x5d ∷ 0x3e ∷ behind → ⊥
  go (inl x) e = one_ends after x e
  go (inr x) e = two_end x.0 x.2 (tail_is (sym x.1 ∙ e))

bracket_once : Once IsBracket
bracket_once text (Some one) (Some other) after behind h k = (ap Some (h.1 ∙ sym k.1), tail_is (sym h.0 ∙ k.0))
bracket_once text (Some one) None after behind h k = absurd (bracket_apart text one after behind h k)
bracket_once text None (Some other) after behind h k = absurd (bracket_apart text other behind after k h)
bracket_once text None None after behind h k = (refl, append_cancel_left (codes "]]>") after behind (sym h ∙ k))

other_once : Once IsOther
other_once text one other after behind h k =
    let e = literal_once text h.0 k.0 after behind h.1 k.1 in
    (h.3 ∙ (ap (option_map (λ (d : ℕ). Holds (d ∷ []))) e.0 ∙ sym k.3), e.1)

bracket_first : (text : List ℕ) (saying : Option Saying) (after : List ℕ) → IsBracket text saying after → (rest : List ℕ) × (text ≡ 0x5d ∷ rest)
bracket_first text (Some saying) after h = (after, h.0)
bracket_first text None after h = (0x5d ∷ 0x3e ∷ after, h)

inside_once : Once (IsPlain Inside)
inside_once text one other after behind (inl h) k = behind_once (codes "&") (λ (c : ℕ). Holds (c ∷ [])) reference_once text one other after behind h (agrees_back (inside_reference h.text_is) k)
inside_once text one other after behind h (inl k) = behind_once (codes "&") (λ (c : ℕ). Holds (c ∷ [])) reference_once text one other after behind (agrees_back (inside_reference k.text_is) h) k
inside_once text one other after behind (inr (inl h)) k = bracket_once text one other after behind h (agrees_back (inside_bracket (bracket_first text one after h).1) k)
inside_once text one other after behind h (inr (inl k)) = bracket_once text one other after behind (agrees_back (inside_bracket (bracket_first text other behind k).1) h) k
inside_once text one other after behind (inr (inr h)) (inr (inr k)) = other_once text one other after behind h k

pub plain_once : (part : Part) → Once (IsPlain part)
plain_once Start = blank_once
plain_once Before = blank_once
plain_once Inside = inside_once
plain_once After = blank_once

-- markup
skipped_once : (part : Part) → Once (IsSkipped part)
skipped_once Start = first_instruction_once
skipped_once Before = instruction_once
skipped_once Inside = instruction_once
skipped_once After = instruction_once

special_once : (part : Part) → Once (IsSpecial part)
special_once Start = behind_once (codes "DOCTYPE") (λ (unit : Unit {0}). Declares) (text_once [])
special_once Before = behind_once (codes "DOCTYPE") (λ (unit : Unit {0}). Declares) (text_once [])
special_once Inside = behind_once (codes "[CDATA[") (λ (body : List ℕ). Holds (line_ends body)) (up_to_once is_legal (codes "]]>"))
special_once After = λ text one other after behind h k. absurd h

dashes_once : Once (Behind (codes "--") IsComment silent)
dashes_once = behind_once (codes "--") silent comment_once

declared_once : (part : Part) → Once (Behind (codes "--") IsComment silent or IsSpecial part)
declared_once part text one other after behind (inl h) k = dashes_once text one other after behind h (agrees_back (declared_dashes part h.text_is) k)
declared_once part text one other after behind (inr h) (inl k) = dashes_once text one other after behind (agrees_back (declared_dashes part k.text_is) (inr h)) k
declared_once part text one other after behind (inr h) (inr k) = special_once part text one other after behind h k

begin_once : Once (Behind [] IsTag Begins)
begin_once = behind_once [] Begins tag_once

inside_tag_once : Once (IsElementTag Inside)
inside_tag_once text one other after behind (inl h) k = behind_once (codes "/") Ends end_tag_once text one other after behind h (agrees_back (inside_end h.text_is) k)
inside_tag_once text one other after behind (inr h) (inl k) = behind_once (codes "/") Ends end_tag_once text one other after behind (agrees_back (inside_end k.text_is) (inr h)) k
inside_tag_once text one other after behind (inr h) (inr k) = begin_once text one other after behind h k

element_once : (part : Part) → Once (IsElementTag part)
element_once Start = begin_once
element_once Before = begin_once
element_once Inside = inside_tag_once
element_once After = λ text one other after behind h k. absurd h

bang_once : (part : Part) → Once (Behind (codes "!") (Behind (codes "--") IsComment silent or IsSpecial part) (λ (saying : Saying). saying))
bang_once part = behind_once (codes "!") (λ (saying : Saying). saying) (declared_once part)

question_once : (part : Part) → Once (Behind (codes "?") (IsSkipped part) silent)
question_once part = behind_once (codes "?") silent (skipped_once part)

markup_once : (part : Part) → Once (IsMarkup part)
markup_once part text one other after behind (inl h) k = bang_once part text one other after behind h (agrees_back (markup_bang part h.text_is) k)
markup_once part text one other after behind (inr h) (inl k) = bang_once part text one other after behind (agrees_back (markup_bang part k.text_is) (inr h)) k
markup_once part text one other after behind (inr (inl h)) (inr k) = question_once part text one other after behind h (agrees_back (markup_question part h.text_is) (inr k))
markup_once part text one other after behind (inr (inr h)) (inr (inl k)) = question_once part text one other after behind (agrees_back (markup_question part k.text_is) (inr (inr h))) k
markup_once part text one other after behind (inr (inr h)) (inr (inr k)) = element_once part text one other after behind h k

-- constructs of a document
less_once : (part : Part) → Once (Behind (codes "<") (IsMarkup part) (λ (saying : Saying). saying))
less_once part = behind_once (codes "<") (λ (saying : Saying). saying) (markup_once part)

pub construct_once : (part : Part) → Once (IsConstruct part)
construct_once part text one other after behind (inl h) k = less_once part text one other after behind h (agrees_back (construct_markup part h.text_is) k)
construct_once part text one other after behind (inr h) (inl k) = less_once part text one other after behind (agrees_back (construct_markup part k.text_is) (inr h)) k
construct_once part text one other after behind (inr h) (inr k) = plain_once part text one other after behind h k
