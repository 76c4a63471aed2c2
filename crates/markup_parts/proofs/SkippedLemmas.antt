-- Constructs that end at a fixed text.
use Rattle.std.proofs.Common.{◌≡◌, ◌<◌, ◌≤◌, ℕ, List, [], ◌∷◌, ◌++◌, length, Bool, true, false, refl, ap, sym, ◌∙◌, subst, arith, append_assoc, codes, Option, Some, None}
use Rattle.std.proofs.lemmas.List.{append-nil, length-append}
use Rattle.std.specs.Option.{option_map}
use Rattle.markup_parts.specs.Chars.{is_legal}
use Rattle.markup_parts.specs.Constructs.{IsText, IsUpTo, IsComment}
use Rattle.markup_parts.specs.Outcomes.{Stopped, IsRead, IsUnfinished, IsBroken, Reads}
use Rattle.markup_parts.specs.declared.stop.Stop.{Stop}
use Rattle.markup_parts.specs.declared.stop.Stop.TheVariants.{Broken, Cut, Refused}
use Rattle.markup_parts.proofs.LiteralLemmas.{head_is, tail_is, true_false}
use Rattle.markup_parts.proofs.ReadsLemmas.{Continues, Agrees}

-- the end stands here
pub up_to_end : (test : ℕ → Bool) (end : List ℕ) {text behind : List ℕ} → IsRead (IsText end) text tt behind → IsRead (IsUpTo test end) text [] behind
up_to_end test end {text} {behind} r = record { is = r.is; only = only } where
  only : (more : List ℕ) (other : Option (List ℕ)) (after : List ℕ) → IsUpTo test end (text ++ more) other after → (other ≡ Some []) × (after ≡ behind ++ more)
  only more None after h = absurd h
  only more (Some []) after h = (refl, (r.only more (Some tt) after h).1)
  only more (Some (c ∷ cs)) after h = absurd (h.0 (behind ++ more) (r.is more))

-- a text with an end in it is at least as long
as_long : (test : ℕ → Bool) (end text body after : List ℕ) → IsUpTo test end text (Some body) after → length end ≤ length text
as_long test end text [] after h = omega (arith, ap length h, length-append end after)
as_long test end text (c ∷ cs) after h = omega (arith, as_long test end h.2.0 cs after h.2.2, ap length h.2.1)

-- a text that ends in a given one is shorter than it
unfinished_short : (end text : List ℕ) → IsUnfinished (IsText end) text → length text < length end
unfinished_short end text s = go s.more s.value (s.whole []) where
  go : (more : List ℕ) (value : Option (Unit {0})) → IsText end (text ++ (more ++ [])) value [] → length text < length end
  go more None h = absurd h
  go [] (Some unit) h = absurd (s.none (Some tt) [] (sym (append-nil text) ∙ h))
  go (c ∷ cs) (Some unit) h = omega (arith, ap length h, length-append text ((c ∷ cs) ++ []), length-append end [])

-- the text ends in the end
pub up_to_cut : (test : ℕ → Bool) (end : List ℕ) {text : List ℕ} → IsUnfinished (IsText end) text → IsUnfinished (IsUpTo test end) text
up_to_cut test end {text} s = record { none = none; more = s.more; value = Some []; whole = λ after. whole s.value after (s.whole after) } where
  none : (other : Option (List ℕ)) (after : List ℕ) → IsUpTo test end text other after → ⊥
  none None after h = h
  none (Some body) after h = absurd (omega (arith, as_long test end text body after h, unfinished_short end text s))

  whole : (value : Option (Unit {0})) (after : List ℕ) → IsText end (text ++ (s.more ++ after)) value after → IsUpTo test end (text ++ (s.more ++ after)) (Some []) after
  whole None after h = absurd h
  whole (Some unit) after h = h

-- a character that passes stands here, and not the end
pub up_to_on : (test : ℕ → Bool) (end : List ℕ) {text behind : List ℕ} {c : ℕ} → IsBroken (IsText end) text → text ≡ c ∷ behind → test c ≡ true
    → Continues (IsUpTo test end) (IsUpTo test end) (λ (cs : List ℕ). c ∷ cs) behind text
up_to_on test end {text} {behind} {c} b first pass = record { sound = sound; only = only } where
  whole : (more : List ℕ) → text ++ more ≡ c ∷ (behind ++ more)
  whole more = ap (λ (t : List ℕ). t ++ more) first

  sound : (more : List ℕ) (value : Option (List ℕ)) (after : List ℕ) → IsUpTo test end (behind ++ more) value after
      → IsUpTo test end (text ++ more) (option_map (λ (cs : List ℕ). c ∷ cs) value) after
  sound more None after h = h
  sound more (Some body) after h = ((λ rest e. b more (Some tt) rest e), pass, (behind ++ more, whole more, h))

  only : (more : List ℕ) (other : Option (List ℕ)) (after : List ℕ) → IsUpTo test end (text ++ more) other after
      → (inner : Option (List ℕ)) × (other ≡ option_map (λ (cs : List ℕ). c ∷ cs) inner) × IsUpTo test end (behind ++ more) inner after
  only more None after h = absurd h
  only more (Some []) after h = absurd (b more (Some tt) after h)
  only more (Some (d ∷ ds)) after h =
      let e = sym (whole more) ∙ h.2.1 in
      (Some ds, ap (λ (x : ℕ). Some (x ∷ ds)) (sym (head_is e)), subst (λ (t : List ℕ). IsUpTo test end t (Some ds) after) (sym (tail_is e)) h.2.2)

pub up_to_broken : (test : ℕ → Bool) (end : List ℕ) {text behind : List ℕ} {c : ℕ} → IsBroken (IsText end) text → text ≡ c ∷ behind → test c ≡ false → IsBroken (IsUpTo test end) text
up_to_broken test end {text} {behind} {c} b first fail = none where
  none : (more : List ℕ) (other : Option (List ℕ)) (after : List ℕ) → IsUpTo test end (text ++ more) other after → ⊥
  none more None after h = h
  none more (Some []) after h = b more (Some tt) after h
  none more (Some (d ∷ ds)) after h =
      true_false (ap test (head_is (sym (ap (λ (t : List ℕ). t ++ more) first) ∙ h.2.1)) ∙ h.1) fail

-- a given text doesn't stand at the end of the text if it has a character
pub up_to_nil : (test : ℕ → Bool) (end : List ℕ) {text : List ℕ} → text ≡ [] → IsBroken (IsText end) text → IsUnfinished (IsUpTo test end) text
up_to_nil test end {text} ended b =
    absurd (b end (Some tt) [] (ap (λ (t : List ℕ). t ++ end) ended ∙ sym (append-nil end)))

-- a comment
pub comment_on : {text body rest : List ℕ} → IsRead (IsUpTo is_legal (codes "--")) text body rest → Agrees (IsText (codes ">")) IsComment rest text
comment_on {text} {body} {rest} r = record { sound = sound; only = only } where
  sound : (more : List ℕ) (value : Option (Unit {0})) (after : List ℕ) → IsText (codes ">") (rest ++ more) value after → IsComment (text ++ more) value after
  sound more None after h = h
  sound more (Some unit) after h = (body, subst (IsUpTo is_legal (codes "--") (text ++ more) (Some body)) h (r.is more))

  only : (more : List ℕ) (value : Option (Unit {0})) (after : List ℕ) → IsComment (text ++ more) value after → IsText (codes ">") (rest ++ more) value after
  only more None after h = h
  only more (Some unit) after h = sym (r.only more (Some h.0) (0x3e ∷ after) h.1).1

pub comment_stop : (text : List ℕ) (stop : Stop) → Reads (IsUpTo is_legal (codes "--")) text (Stopped stop) → Reads IsComment text (Stopped stop)
comment_stop text Broken r = none where
  none : (more : List ℕ) (other : Option (Unit {0})) (after : List ℕ) → IsComment (text ++ more) other after → ⊥
  none more None after h = h
  none more (Some unit) after h = r more (Some h.0) (0x3e ∷ after) h.1
comment_stop text Cut r = record { none = none; more = r.more ++ 0x3e ∷ []; value = Some tt; whole = λ after. whole r.value after (r.whole (0x3e ∷ after)) } where
  none : (other : Option (Unit {0})) (after : List ℕ) → IsComment text other after → ⊥
  none None after h = h
  none (Some unit) after h = r.none (Some h.0) (0x3e ∷ after) h.1

  whole : (value : Option (List ℕ)) (after : List ℕ) → IsUpTo is_legal (codes "--") (text ++ (r.more ++ 0x3e ∷ after)) value (0x3e ∷ after) → IsComment (text ++ ((r.more ++ 0x3e ∷ []) ++ after)) (Some tt) after
  whole None after h = absurd h
  whole (Some body) after h =
      (body, subst (λ (t : List ℕ). IsUpTo is_legal (codes "--") (text ++ t) (Some body) (0x3e ∷ after)) (sym (append_assoc r.more (0x3e ∷ []) after)) h)
comment_stop text Refused r = absurd (r.is [])
