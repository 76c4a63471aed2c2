-- Reading one character as it stands.
use Rattle.std.proofs.Common.{◌≡◌, ◌⊎◌, ℕ, List, [], ◌∷◌, ◌++◌, Bool, true, false, ◌==◌, refl, ap, sym, inl, inr, Option, Some, None, ne_eqb, arith}
use Rattle.markup_parts.specs.Chars.{is_legal}
use Rattle.markup_parts.specs.Constructs.{IsLiteral}
use Rattle.markup_parts.specs.Outcomes.{IsRead, IsUnfinished}

-- a head and a tail of equal lists
pub head_is : {c d : ℕ} {cs ds : List ℕ} → c ∷ cs ≡ d ∷ ds → c ≡ d
head_is e = cc

pub tail_is : {c d : ℕ} {cs ds : List ℕ} → c ∷ cs ≡ d ∷ ds → cs ≡ ds
tail_is e = cc

pub not_nil : {c : ℕ} {cs : List ℕ} → [] ≡ c ∷ cs → ⊥
not_nil e = cc

-- the test's two answers
pub true_false : {b : Bool} → b ≡ true → b ≡ false → ⊥
true_false p q = cc

nil_none : (value : Option ℕ) (after : List ℕ) → IsLiteral [] value after → ⊥
nil_none None after h = h
nil_none (Some c) after (inl h) = not_nil h.0
nil_none (Some c) after (inr (inl h)) = not_nil h.0
nil_none (Some c) after (inr (inr h)) = not_nil h.0

letter : (after : List ℕ) → IsLiteral (0x61 ∷ after) (Some 0x61) after
unfolding is_legal
letter after = inl (refl, (λ e. omega arith), refl)

pub literal_nil : IsUnfinished IsLiteral []
literal_nil = record { none = nil_none; more = 0x61 ∷ []; value = Some 0x61; whole = letter }

return_none : (value : Option ℕ) (after : List ℕ) → IsLiteral (0xd ∷ []) value after → ⊥
return_none None after h = h
return_none (Some c) after (inl h) = h.1 (sym (head_is h.0))
return_none (Some c) after (inr (inl h)) = not_nil (tail_is h.0)
return_none (Some c) [] (inr (inr h)) = h.1
return_none (Some c) (d ∷ ds) (inr (inr h)) = not_nil (tail_is h.0)

pub literal_return : IsUnfinished IsLiteral (0xd ∷ [])
literal_return = record { none = return_none; more = 0xa ∷ []; value = Some 0xa; whole = λ after. inr (inl (refl, refl)) }

feed_only : (rest more : List ℕ) (other : Option ℕ) (behind : List ℕ) → IsLiteral (0xd ∷ 0xa ∷ (rest ++ more)) other behind → (other ≡ Some 0xa) × (behind ≡ rest ++ more)
feed_only rest more None behind h = absurd h
feed_only rest more (Some c) behind (inl h) = absurd (h.1 (sym (head_is h.0)))
feed_only rest more (Some c) behind (inr (inl h)) = (ap Some h.1, sym (tail_is (tail_is h.0)))
feed_only rest more (Some c) [] (inr (inr h)) = absurd h.1
feed_only rest more (Some c) (d ∷ ds) (inr (inr h)) = absurd (true_false (ap (λ (x : ℕ). x == 0xa) (sym (head_is (tail_is h.0)))) h.1)

pub literal_feed : (rest : List ℕ) → IsRead IsLiteral (0xd ∷ 0xa ∷ rest) 0xa rest
literal_feed rest = record { is = λ more. inr (inl (refl, refl)); only = feed_only rest }

alone_only : (d : ℕ) (rest more : List ℕ) → (d ≡ 0xa → ⊥) → (other : Option ℕ) (behind : List ℕ) → IsLiteral (0xd ∷ d ∷ (rest ++ more)) other behind
    → (other ≡ Some 0xa) × (behind ≡ d ∷ (rest ++ more))
alone_only d rest more apart None behind h = absurd h
alone_only d rest more apart (Some c) behind (inl h) = absurd (h.1 (sym (head_is h.0)))
alone_only d rest more apart (Some c) behind (inr (inl h)) = absurd (apart (head_is (tail_is h.0)))
alone_only d rest more apart (Some c) behind (inr (inr h)) = (ap Some h.2, sym (tail_is h.0))

pub literal_alone : (d : ℕ) (rest : List ℕ) → (d ≡ 0xa → ⊥) → IsRead IsLiteral (0xd ∷ d ∷ rest) 0xa (d ∷ rest)
literal_alone d rest apart = record {
  is = λ more. inr (inr (refl, ne_eqb d 0xa apart, refl));
  only = λ more other behind h. alone_only d rest more apart other behind h;
}

legal_only : (c : ℕ) (rest : List ℕ) → (c ≡ 0xd → ⊥) → (more : List ℕ) (other : Option ℕ) (behind : List ℕ) → IsLiteral (c ∷ (rest ++ more)) other behind → (other ≡ Some c) × (behind ≡ rest ++ more)
legal_only c rest apart more None behind h = absurd h
legal_only c rest apart more (Some d) behind (inl h) = (ap Some (sym (head_is h.0)), sym (tail_is h.0))
legal_only c rest apart more (Some d) behind (inr (inl h)) = absurd (apart (head_is h.0))
legal_only c rest apart more (Some d) behind (inr (inr h)) = absurd (apart (head_is h.0))

pub literal_legal : (c : ℕ) (rest : List ℕ) → (c ≡ 0xd → ⊥) → is_legal c ≡ true → IsRead IsLiteral (c ∷ rest) c rest
literal_legal c rest apart legal = record { is = λ more. inl (refl, apart, legal); only = legal_only c rest apart }

pub no_literal : (d : ℕ) (after : List ℕ) → IsLiteral [] (Some d) after → ⊥
no_literal d after h = nil_none (Some d) after h

-- a character stands for itself, or is a carriage return
pub literal_head : (c : ℕ) (cs : List ℕ) (d : ℕ) (after : List ℕ) → IsLiteral (c ∷ cs) (Some d) after → (c ≡ d) ⊎ ((c ≡ 0xd) × (d ≡ 0xa))
literal_head c cs d after (inl h) = inl (head_is h.0)
literal_head c cs d after (inr (inl h)) = inr (head_is h.0, h.1)
literal_head c cs d after (inr (inr h)) = inr (head_is h.0, h.2)
