-- The content of a paragraph begins with one character that stands for itself or as an entity, or with waiting spaces.
use Rattle.std.proofs.Common.{◌≡◌, ℕ, ◌+◌, ◌≤◌, Bool, true, false, List, [], ◌∷◌, ◌++◌, get_or, refl, ap, sym, ◌∙◌, arith, zero, suc, append_assoc, append-nil, add-zero, inl, inr, eqb-true}
use Rattle.std.specs.Prelude.{◌==◌, not, ◌&&◌, ◌⊎◌, if◌then◌else◌, replicate}
use Rattle.std.proofs.lemmas.Bool.Decides.{eqb_tells}
use Rattle.std.proofs.lemmas.Str.Ascii.{encode_ascii}
use Rattle.doc_model.specs.Chars.{IsPlainChar}
use Rattle.spelling_model.specs.Spelling.{escaped, spaces, is_there}
use Rattle.plain_doc.specs.PlainSpelling.{plain_content}
use Rattle.fodt_read.specs.PlainText.{IsUnmarked, IsEntity}

-- one character, and the content after it
pub record Single (c : ℕ) (cs bytes : List ℕ) : Type 0 where
  pub after_word : Bool
  pub spelled : bytes ≡ escaped c ++ plain_content 0 after_word cs

-- so many spaces that can't stand for themselves, behind others that wait, and the content after them
pub record Waits (waiting : ℕ) (chars bytes : List ℕ) : Type 0 where
  pub count : ℕ
  pub left : List ℕ
  pub all : chars ≡ replicate count 0x20 ++ left
  pub spelled : bytes ≡ spaces (waiting + count) ++ plain_content 0 false left

waits_on : (waiting c : ℕ) (cs : List ℕ) (space : Bool) → (c == 0x20) ≡ space → Waits (waiting + 1) cs (plain_content (waiting + 1) false cs)
    → Waits waiting (c ∷ cs) (plain_content waiting false (c ∷ cs))
unfolding spaces
waits_on waiting c cs true is more =
    let sum : waiting + 1 + more.count ≡ waiting + suc more.count = omega arith in
    record {
      count = suc more.count;
      left = more.left;
      all = ap (λ (x : ℕ). x ∷ cs) (eqb-true c 0x20 is) ∙ ap (λ (xs : List ℕ). 0x20 ∷ xs) more.all;
      spelled = rw is (more.spelled ∙ ap (λ (n : ℕ). spaces n ++ plain_content 0 false more.left) sum);
    }
waits_on waiting c cs false is more = record {
  count = 0;
  left = c ∷ cs;
  all = refl;
  spelled = rw (is, add-zero) (append_assoc (spaces waiting) (escaped c) (plain_content 0 true cs));
}

waits : (waiting : ℕ) (cs : List ℕ) → Waits waiting cs (plain_content waiting false cs)
unfolding spaces
waits waiting [] = record { count = 0; left = []; all = refl; spelled = rw add-zero (sym (append-nil (spaces waiting))) }
waits waiting (c ∷ cs) = waits_on waiting c cs (c == 0x20) refl (waits (waiting + 1) cs)

-- what the content is where its first character is a space or not, and stands for itself or not
abbrev begun : Bool → Bool → ℕ → List ℕ → List ℕ
begun space stands c cs = if space && not stands then plain_content 1 false cs else spaces 0 ++ escaped c ++ plain_content 0 (not space) cs

pub record Waiting (chars bytes : List ℕ) : Type 0 where
  pub count : ℕ
  pub left : List ℕ
  pub some : 1 ≤ count
  pub all : chars ≡ replicate count 0x20 ++ left
  pub spelled : bytes ≡ spaces count ++ plain_content 0 false left

next_by : (space stands : Bool) (c : ℕ) (cs : List ℕ) → (c == 0x20) ≡ space → Single c cs (begun space stands c cs) ⊎ Waiting (c ∷ cs) (begun space stands c cs)
unfolding spaces
next_by true true c cs is = inl (record { after_word = false; spelled = refl })
next_by true false c cs is =
    let more = waits 1 cs in
    let sum : 1 + more.count ≡ suc more.count = omega arith in
    inr (record {
      count = suc more.count;
      left = more.left;
      some = omega arith;
      all = ap (λ (x : ℕ). x ∷ cs) (eqb-true c 0x20 is) ∙ ap (λ (xs : List ℕ). 0x20 ∷ xs) more.all;
      spelled = more.spelled ∙ ap (λ (n : ℕ). spaces n ++ plain_content 0 false more.left) sum;
    })
next_by false true c cs is = inl (record { after_word = true; spelled = refl })
next_by false false c cs is = inl (record { after_word = true; spelled = refl })

-- what content begins with
pub next : (after_word : Bool) (c : ℕ) (cs : List ℕ) → Single c cs (plain_content 0 after_word (c ∷ cs)) ⊎ Waiting (c ∷ cs) (plain_content 0 after_word (c ∷ cs))
next after_word c cs = next_by (c == 0x20) (after_word && is_there cs) c cs refl

-- a plain character has an entity or stands for itself
pub escaped_cases : (c : ℕ) → IsPlainChar c → IsEntity c ⊎ (IsUnmarked c × (escaped c ≡ c ∷ []))
unfolding escaped
escaped_cases c plain =
    elim (eqb_tells c 0x26) [
      | inl is ↦ inl (inl is.1)
      | inr and ↦ elim (eqb_tells c 0x3c) [
        | inl is ↦ inl (inr (inl is.1))
        | inr less ↦ elim (eqb_tells c 0x3e) [
          | inl is ↦ inl (inr (inr is.1))
          | inr greater ↦ inr ((plain, and.1, less.1), rw (and.0, less.0, greater.0) (encode_ascii c (omega (arith, plain.1))))
        ]
      ]
    ]

-- the first byte of an entity
pub entity_front : (c : ℕ) (more : List ℕ) → IsEntity c → get_or (escaped c ++ more) 0 0 ≡ 0x26
unfolding escaped
entity_front c more (inl e) = rw e refl
entity_front c more (inr (inl e)) = rw e refl
entity_front c more (inr (inr e)) = rw e refl

-- the first byte of the element for spaces
pub spaces_front : (count : ℕ) (more : List ℕ) → 1 ≤ count → get_or (spaces count ++ more) 0 0 ≡ 0x3c
unfolding spaces
spaces_front zero more some = absurd (omega arith)
spaces_front (suc zero) more some = refl
spaces_front (suc (suc count)) more some = refl

-- its second byte, which is that of no end tag
pub spaces_second : (count : ℕ) (more : List ℕ) → 1 ≤ count → get_or (spaces count ++ more) 1 0 ≡ 0x74
unfolding spaces
spaces_second zero more some = absurd (omega arith)
spaces_second (suc zero) more some = refl
spaces_second (suc (suc count)) more some = refl

-- an entity begins with an ampersand
pub entity_begins : (c : ℕ) (more : List ℕ) → IsEntity c → (rest : List ℕ) × (escaped c ++ more ≡ 0x26 ∷ rest)
unfolding escaped
entity_begins c more (inl e) = (_, ap (λ (x : ℕ). escaped x ++ more) e)
entity_begins c more (inr (inl e)) = (_, ap (λ (x : ℕ). escaped x ++ more) e)
entity_begins c more (inr (inr e)) = (_, ap (λ (x : ℕ). escaped x ++ more) e)
