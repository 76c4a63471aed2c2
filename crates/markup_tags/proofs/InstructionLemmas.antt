-- Processing instructions and the XML declaration.
use Rattle.std.proofs.Common.{◌≡◌, ℕ, List, [], ◌∷◌, ◌++◌, Bool, true, false, refl, ap, sym, ◌∙◌, subst, inl, inr, arith, append_assoc, codes, encode_utf8_all, Option, Some, None}
use Rattle.std.proofs.lemmas.Slice.Eq.{bytes_eq-Decides}
use Rattle.std.proofs.lemmas.Str.{encodes-append}
use lib.Utf8.{encode}
use Rattle.std.specs.Option.{option_map}
use Rattle.std.specs.Str.{str_to_ascii_lowercase}
use Rattle.markup_parts.specs.Chars.{is_legal, is_space, is_name_char, is_name_start}
use Rattle.markup_parts.specs.Constructs.{IsName, StartsName, IsText, IsUpTo}
use Rattle.markup_tags.specs.Instructions.{is_reserved, IsInstructionRest, IsInstruction, IsFirstInstruction}
use Rattle.markup_parts.specs.Outcomes.{Stopped, IsUnfinished, IsBroken, Reads}
use Rattle.markup_parts.specs.Runs.{NotBegins, IsNamePart, ReadsName}
use Rattle.markup_parts.specs.declared.stop.Stop.{Stop}
use Rattle.markup_parts.specs.declared.stop.Stop.TheVariants.{Broken, Cut, Refused}
use Rattle.markup_parts.proofs.LiteralLemmas.{head_is, tail_is, not_nil, true_false}
use Rattle.markup_parts.proofs.ReadsLemmas.{Continues, Agrees}
use Rattle.markup_parts.proofs.RunLemmas.{name_keeps, name_once, name_none, name_unfinished, completes, Completes, each_push}

-- what an instruction has behind its target
question_no_space : is_space 0x3f ≡ false
unfolding is_space
question_no_space = refl

question_no_name : is_name_char 0x3f ≡ false
unfolding is_name_char is_name_start
question_no_name = refl

pub instruction_rest_cut : {test : ℕ → Bool} {text : List ℕ} → text ≡ [] → IsUnfinished (IsInstructionRest test) text
instruction_rest_cut {test} e = subst (IsUnfinished (IsInstructionRest test)) (sym e)
    (record { none = none; more = 0x3f ∷ 0x3e ∷ []; value = Some tt; whole = λ after. inl refl })
  where
    none : (other : Option (Unit {0})) (after : List ℕ) → IsInstructionRest test [] other after → ⊥
    none None after h = h
    none (Some unit) after (inl h) = not_nil h
    none (Some unit) after (inr h) = not_nil h.4

pub instruction_rest_space : {test : ℕ → Bool} {text rest : List ℕ} {c : ℕ} → text ≡ c ∷ rest → is_space c ≡ true
    → Continues (IsUpTo test (codes "?>")) (IsInstructionRest test) (λ (body : List ℕ). tt) rest text
instruction_rest_space {test} {text} {rest} {c} first space = record { sound = sound; only = only } where
  sound : (more : List ℕ) (value : Option (List ℕ)) (after : List ℕ) → IsUpTo test (codes "?>") (rest ++ more) value after
      → IsInstructionRest test (text ++ more) (option_map (λ (body : List ℕ). tt) value) after
  sound more None after h = h
  sound more (Some body) after h = inr (c, rest ++ more, body, space, ap (λ (t : List ℕ). t ++ more) first, h)

  only : (more : List ℕ) (other : Option (Unit {0})) (after : List ℕ) → IsInstructionRest test (text ++ more) other after
      → (inner : Option (List ℕ)) × (other ≡ option_map (λ (body : List ℕ). tt) inner) × IsUpTo test (codes "?>") (rest ++ more) inner after
  only more None after h = absurd h
  only more (Some unit) after (inl h) =
      absurd (true_false (ap is_space (sym (head_is (ap (λ (t : List ℕ). t ++ more) (sym first) ∙ h))) ∙ space) question_no_space)
  only more (Some unit) after (inr h) =
      (Some h.2, refl, subst (λ (t : List ℕ). IsUpTo test (codes "?>") t (Some h.2) after) (sym (tail_is (ap (λ (t : List ℕ). t ++ more) (sym first) ∙ h.4))) h.5)

pub instruction_rest_end : {test : ℕ → Bool} {text rest : List ℕ} {c : ℕ} → text ≡ c ∷ rest → is_space c ≡ false → Agrees (IsText (codes "?>")) (IsInstructionRest test) text text
instruction_rest_end {test} {text} {rest} {c} first space = record { sound = sound; only = only } where
  sound : (more : List ℕ) (value : Option (Unit {0})) (after : List ℕ) → IsText (codes "?>") (text ++ more) value after → IsInstructionRest test (text ++ more) value after
  sound more None after h = h
  sound more (Some unit) after h = inl h

  only : (more : List ℕ) (value : Option (Unit {0})) (after : List ℕ) → IsInstructionRest test (text ++ more) value after → IsText (codes "?>") (text ++ more) value after
  only more None after h = h
  only more (Some unit) after (inl h) = h
  only more (Some unit) after (inr h) =
      absurd (true_false (ap is_space (head_is (ap (λ (t : List ℕ). t ++ more) (sym first) ∙ h.4)) ∙ h.3) space)

-- an instruction behind a target that isn't reserved
pub instruction_on : {text target rest : List ℕ} → IsName text target rest → is_reserved target ≡ false → Agrees (IsInstructionRest is_legal) IsInstruction rest text
instruction_on {text} {target} {rest} n free = record {
  sound = λ more value after h. (target, rest ++ more, name_keeps more n, free, h);
  only = λ more value after h. let once = name_once more n h.2 in subst (λ (t : List ℕ). IsInstructionRest is_legal t value after) once.1 h.4;
}

pub instruction_reserved : {text target rest : List ℕ} → IsName text target rest → is_reserved target ≡ true → IsBroken IsInstruction text
instruction_reserved n taken more other after h = let once = name_once more n h.2 in true_false (ap is_reserved once.0 ∙ taken) h.3

pub instruction_none : {text : List ℕ} → (text ≡ [] → ⊥) → NotBegins is_name_start text → IsBroken IsInstruction text
instruction_none {text} filled never more other after h = name_none text more h.0 h.1 filled never h.2

-- a hyphen makes a target free
hyphen_apart : (xs : List ℕ) → xs ++ 0x2d ∷ [] ≡ 0x78 ∷ 0x6d ∷ 0x6c ∷ [] → ⊥
hyphen_apart [] e = let f = head_is e in omega arith
hyphen_apart (a ∷ []) e = let f = head_is (tail_is e) in omega arith
hyphen_apart (a ∷ b ∷ []) e = let f = head_is (tail_is (tail_is e)) in omega arith
hyphen_apart (a ∷ b ∷ c ∷ []) e = not_nil (sym (tail_is (tail_is (tail_is e))))
hyphen_apart (a ∷ b ∷ c ∷ d ∷ ds) e = not_nil (sym (tail_is (tail_is (tail_is e))))

lower-append : (xs ys : List ℕ) → str_to_ascii_lowercase (xs ++ ys) ≡ str_to_ascii_lowercase xs ++ str_to_ascii_lowercase ys
lower-append [] ys = refl
lower-append (x ∷ xs) ys = ap (λ (t : List ℕ). str_to_ascii_lowercase (x ∷ []) ++ t) (lower-append xs ys)

hyphen_free : (name : List ℕ) → is_reserved (name ++ 0x2d ∷ []) ≡ false
unfolding is_reserved encode
hyphen_free name = go (is_reserved (name ++ 0x2d ∷ [])) refl where
  go : (b : Bool) → is_reserved (name ++ 0x2d ∷ []) ≡ b → is_reserved (name ++ 0x2d ∷ []) ≡ false
  go false e = e
  go true e =
      let same = (bytes_eq-Decides (str_to_ascii_lowercase (encode_utf8_all (name ++ 0x2d ∷ []))) (str_to_ascii_lowercase (codes "xml"))).0 e in
      absurd (hyphen_apart (str_to_ascii_lowercase (encode_utf8_all name))
      (sym (lower-append (encode_utf8_all name) (0x2d ∷ [])) ∙ (ap str_to_ascii_lowercase (sym (encodes-append name (0x2d ∷ []))) ∙ same)))

hyphen_name : is_name_char 0x2d ≡ true
unfolding is_name_char is_name_start
hyphen_name = refl

pub instruction_cut : {text : List ℕ} → IsNamePart text → IsUnfinished IsInstruction text
instruction_cut {text} part =
    let finish = completes text part in
    record {
      none = λ other after h. name_unfinished text h.0 h.1 part h.2;
      more = finish.more ++ (0x2d ∷ 0x3f ∷ 0x3e ∷ []);
      value = Some tt;
      whole = λ after. (finish.name ++ 0x2d ∷ [], 0x3f ∷ 0x3e ∷ after, hyphened finish after, hyphen_free finish.name, inl refl);
    }
  where
    started : (name : List ℕ) → StartsName name → StartsName (name ++ 0x2d ∷ [])
    started [] h = absurd h
    started (c ∷ cs) h = h

    hyphened : (finish : Completes text) (after : List ℕ)
        → IsName (text ++ ((finish.more ++ (0x2d ∷ 0x3f ∷ 0x3e ∷ [])) ++ after)) (finish.name ++ 0x2d ∷ []) (0x3f ∷ 0x3e ∷ after)
    hyphened finish after = record {
      run = record {
        parts = ap (λ (t : List ℕ). text ++ t) (append_assoc finish.more (0x2d ∷ 0x3f ∷ 0x3e ∷ []) after)
            ∙ (sym (append_assoc text finish.more (0x2d ∷ 0x3f ∷ 0x3e ∷ after))
            ∙ (ap (λ (t : List ℕ). t ++ (0x2d ∷ 0x3f ∷ 0x3e ∷ after)) finish.parts ∙ sym (append_assoc finish.name (0x2d ∷ []) (0x3f ∷ 0x3e ∷ after))));
        all = each_push (λ c. is_name_char c ≡ true) finish.name 0x2d finish.all hyphen_name;
        ends = question_no_name;
      };
      starts = started finish.name finish.starts;
    }

taken : is_reserved (codes "xml") ≡ true
unfolding is_reserved encode
taken = refl

pub declaration_on : {text rest : List ℕ} → IsName text (codes "xml") rest → Agrees (IsInstructionRest (λ c. true)) IsFirstInstruction rest text
declaration_on {text} {rest} n = record { sound = λ more value after h. inr (rest ++ more, name_keeps more n, h); only = only } where
  only : (more : List ℕ) (value : Option (Unit {0})) (after : List ℕ) → IsFirstInstruction (text ++ more) value after → IsInstructionRest (λ c. true) (rest ++ more) value after
  only more value after (inl h) = let once = name_once more n h.2 in absurd (true_false (ap is_reserved once.0 ∙ taken) h.3)
  only more value after (inr h) = let once = name_once more n h.1 in subst (λ (t : List ℕ). IsInstructionRest (λ c. true) t value after) once.1 h.2

-- a target that isn't xml
pub first_instruction : {text target rest : List ℕ} → IsName text target rest → (target ≡ codes "xml" → ⊥) → Agrees IsInstruction IsFirstInstruction text text
first_instruction {text} {target} {rest} n apart = record { sound = λ more value after h. inl h; only = only } where
  only : (more : List ℕ) (value : Option (Unit {0})) (after : List ℕ) → IsFirstInstruction (text ++ more) value after → IsInstruction (text ++ more) value after
  only more value after (inl h) = h
  only more value after (inr h) = let once = name_once more n h.1 in absurd (apart (sym once.0))

pub first_none : {text : List ℕ} → (text ≡ [] → ⊥) → NotBegins is_name_start text → IsBroken IsFirstInstruction text
first_none {text} filled never = none where
  none : (more : List ℕ) (other : Option (Unit {0})) (after : List ℕ) → IsFirstInstruction (text ++ more) other after → ⊥
  none more other after (inl h) = name_none text more h.0 h.1 filled never h.2
  none more other after (inr h) = name_none text more (codes "xml") h.0 filled never h.1

pub first_cut : {text : List ℕ} → IsNamePart text → IsUnfinished IsFirstInstruction text
first_cut {text} part =
    let i = instruction_cut part in
    record { none = none; more = i.more; value = i.value; whole = λ after. inl (i.whole after) }
  where
    none : (other : Option (Unit {0})) (after : List ℕ) → IsFirstInstruction text other after → ⊥
    none other after (inl h) = name_unfinished text h.0 h.1 part h.2
    none other after (inr h) = name_unfinished text (codes "xml") h.0 part h.1

-- stops at the target
pub instruction_stop : (text : List ℕ) (stop : Stop) → ReadsName text (Stopped stop) → Reads IsInstruction text (Stopped stop)
instruction_stop text Broken h = instruction_none h.0 h.1
instruction_stop text Cut h = instruction_cut h
instruction_stop text Refused h = absurd h

pub first_stop : (text : List ℕ) (stop : Stop) → ReadsName text (Stopped stop) → Reads IsFirstInstruction text (Stopped stop)
first_stop text Broken h = first_none h.0 h.1
first_stop text Cut h = first_cut h
first_stop text Refused h = absurd h
