-- A name cut at its first colon.
use Rattle.std.proofs.Common.{◌≡◌, ℕ, ◌+◌, ◌||◌, Bool, true, false, cond, not, List, [], ◌∷◌, ◌++◌, take, drop, length, refl, sym, ap, ap₂, subst, ◌∙◌, arith, Some, None, zero, suc, ◌<◌, ◌≤◌, lit<}
use Rattle.std.specs.List.{list_any, before_first, after_first, position_or_len}
use Rattle.std.specs.Str.{IsUtf8, IsAscii, NonePass, NoCharPasses, chars}
use Rattle.std.specs.Char.{encode_utf8}
use Rattle.std.specs.Str.Pattern.{FindsChar}
use Rattle.std.proofs.lemmas.List.{take-append-drop}
use Rattle.std.proofs.lemmas.Str.{chars-append, chars_past_char, chars_from_encodes, encode_ascii, IsUtf8-append, IsUtf8-from_ascii}
use Rattle.load_model.specs.Names.{is_colon, cut_name}

colon_ascii : IsAscii (0x3a ∷ [])
colon_ascii zero = lit< tt
colon_ascii (suc i) = lit< tt

-- no colon
none_any : (cs : List ℕ) → NonePass is_colon cs → list_any is_colon cs ≡ false
none_any [] h = refl
none_any (c ∷ cs) h = ap (λ b. b || list_any is_colon cs) h.0 ∙ none_any cs h.1

pub cut_nowhere : (name : List ℕ) → list_any is_colon name ≡ false → record { prefix = None; local_name = name } ≡ cut_name name
cut_nowhere name h = ap (λ b. cond b (record { prefix = Some (before_first is_colon name); local_name = after_first is_colon name }) (record { prefix = None; local_name = name })) (sym h)

-- a first colon
any_colon : (ps qs : List ℕ) → list_any is_colon (ps ++ 0x3a ∷ qs) ≡ true
any_colon [] qs = refl
any_colon (p ∷ ps) qs = by_test (is_colon p) (any_colon ps qs) where
  by_test : (b : Bool) → list_any is_colon (ps ++ 0x3a ∷ qs) ≡ true → (b || list_any is_colon (ps ++ 0x3a ∷ qs)) ≡ true
  by_test true more = refl
  by_test false more = more

colon_at : (ps qs : List ℕ) → NonePass is_colon ps → position_or_len is_colon (ps ++ 0x3a ∷ qs) ≡ length ps
colon_at [] qs h = refl
colon_at (p ∷ ps) qs h = ap (λ b. cond (not b) (1 + position_or_len is_colon (ps ++ 0x3a ∷ qs)) 0) h.0 ∙ omega (arith, colon_at ps qs h.1)

take_seam : (ps qs : List ℕ) → take (length ps) (ps ++ qs) ≡ ps
take_seam [] qs = refl
take_seam (p ∷ ps) qs = ap (λ more. p ∷ more) (take_seam ps qs)

drop_seam : (ps : List ℕ) (q : ℕ) (qs : List ℕ) → drop (suc (length ps)) (ps ++ q ∷ qs) ≡ qs
drop_seam [] q qs = refl
drop_seam (p ∷ ps) q qs = drop_seam ps q qs

pub cut_there : (ps qs name : List ℕ) → NonePass is_colon ps → name ≡ ps ++ 0x3a ∷ qs → record { prefix = Some ps; local_name = qs } ≡ cut_name name
cut_there ps qs name none e =
    let before : before_first is_colon name ≡ ps = ap₂ (λ k (xs : List ℕ). take k xs) (ap (position_or_len is_colon) e ∙ colon_at ps qs none) e ∙ take_seam ps (0x3a ∷ qs) in
    let at : position_or_len is_colon name + 1 ≡ suc (length ps) = omega (arith, ap (position_or_len is_colon) e ∙ colon_at ps qs none) in
    let behind : after_first is_colon name ≡ qs = ap₂ (λ k (xs : List ℕ). drop k xs) at e ∙ drop_seam ps 0x3a qs in
    let any : list_any is_colon name ≡ true = ap (list_any is_colon) e ∙ any_colon ps qs in
    ap₂ (λ p (q : List ℕ). record { prefix = Some p; local_name = q }) (sym before) (sym behind)
    ∙ ap (λ b. cond b (record { prefix = Some (before_first is_colon name); local_name = after_first is_colon name }) (record { prefix = None; local_name = name })) (sym any)

none_chars : (text : List ℕ) → IsUtf8 text → NoCharPasses is_colon text → NonePass is_colon (chars text)
none_chars text u (cs, encoded, none) = let P : List ℕ → Type 0 = λ ds. NonePass is_colon ds in subst P (chars_from_encodes cs text u encoded) none

pub no_split : (name : List ℕ) → IsUtf8 name → FindsChar 0x3a name None → record { prefix = None; local_name = chars name } ≡ cut_name (chars name)
no_split name u h = cut_nowhere (chars name) (none_any (chars name) (none_chars name u h))

pub split_there : (name prefix local_name : List ℕ) → IsUtf8 prefix → IsUtf8 local_name → NoCharPasses is_colon prefix → name ≡ prefix ++ 0x3a ∷ local_name
    → record { prefix = Some (chars prefix); local_name = chars local_name } ≡ cut_name (chars name)
split_there name prefix local_name u v none e =
    let ascii : 0x3a < 128 = lit< tt in
    let colon : 0x3a ∷ local_name ≡ encode_utf8 0x3a ++ local_name = ap (λ front. front ++ local_name) (sym (encode_ascii 0x3a ascii)) in
    let behind : IsUtf8 (0x3a ∷ local_name) = IsUtf8-append (0x3a ∷ []) local_name (IsUtf8-from_ascii (0x3a ∷ []) colon_ascii) v in
    cut_there (chars prefix) (chars local_name) (chars name) (none_chars prefix u none)
    (ap chars e ∙ chars-append prefix (0x3a ∷ local_name) u ∙ ap (λ more. chars prefix ++ more) (chars_past_char (0x3a ∷ local_name) local_name 0x3a behind colon))

pub around_colon : (name prefix local_name : List ℕ) → (i : ℕ) × (j : ℕ) × FindsChar 0x3a name (Some (i, j)) × (prefix ≡ take i name) × (local_name ≡ drop j name) × (i ≤ j) × (length prefix ≡ i) × (length local_name + j ≡ length name)
    → NoCharPasses is_colon prefix × (name ≡ prefix ++ 0x3a ∷ local_name)
around_colon name prefix local_name (i, j, finds, front, back, within, before, behind) =
    let P : List ℕ → Type 0 = λ text. NoCharPasses is_colon text in
    let ascii : 0x3a < 128 = lit< tt in
    let rest : drop i name ≡ 0x3a ∷ local_name = finds.1.split ∙ ap₂ (λ (a b : List ℕ). a ++ b) (encode_ascii 0x3a ascii) (sym back) in
    (subst P (sym front) finds.0, sym (take-append-drop i name) ∙ ap₂ (λ (a b : List ℕ). a ++ b) (sym front) rest)
