-- Reading one construct as a part of another.
use Rattle.std.proofs.Common.{◌≡◌, ℕ, List, [], ◌∷◌, ◌++◌, refl, ap, sym, ◌∙◌, subst, append_assoc, chars, Bor, Result, Option, Some, None}
use Rattle.std.proofs.lemmas.List.{append-nil}
use Rattle.std.specs.Option.{option_map}
use Rattle.markup_parts.specs.declared.stop.Stop.{Stop}
use Rattle.markup_parts.specs.declared.stop.Stop.TheVariants.{Broken, Cut, Refused}
use Rattle.markup_parts.specs.Outcomes.{Construct, Outcome, Found, Stopped, Reads, outcome}

-- an outcome with another value
abbrev pub mapped : {V W : Type 0} → (V → W) → Outcome V → Outcome W
mapped f (Found value after) = Found (f value) after
mapped f (Stopped stop) = Stopped stop

-- however the texts go on, the outer construct stands at the one exactly where the inner one stands at the other
pub record Continues {V W : Type 0} (Inner : Construct V) (Outer : Construct W) (f : V → W) (rest text : List ℕ) : Type 0 where
  pub sound : (more : List ℕ) (value : Option V) (after : List ℕ) → Inner (rest ++ more) value after → Outer (text ++ more) (option_map f value) after
  pub only : (more : List ℕ) (value : Option W) (after : List ℕ) → Outer (text ++ more) value after
      → (inner : Option V) × (value ≡ option_map f inner) × Inner (rest ++ more) inner after

-- what reading the inner construct comes to, reading the outer one comes to
pub reads_on : {V W : Type 0} {Inner : Construct V} {Outer : Construct W} {f : V → W} {rest text : List ℕ}
    → Continues Inner Outer f rest text → (o : Outcome V) → Reads Inner rest o → Reads Outer text (mapped f o)
reads_on {f = f} k (Found value after) r = record {
  is = λ more. k.sound more (Some value) (after ++ more) (r.is more);
  only = λ more other behind h.
      let q = k.only more other behind h in
      let e = r.only more q.0 behind q.2 in
      (q.1 ∙ ap (option_map f) e.0, e.1);
}
reads_on k (Stopped Broken) r = λ more other behind h. let q = k.only more other behind h in r more q.0 behind q.2
reads_on {Inner = Inner} {Outer = Outer} {f = f} {rest = rest} {text = text} k (Stopped Cut) r = record {
  none = λ other behind h.
      let q = k.only [] other behind (subst (λ (t : List ℕ). Outer t other behind) (sym (append-nil text)) h) in
      r.none q.0 behind (subst (λ (t : List ℕ). Inner t q.0 behind) (append-nil rest) q.2);
  more = r.more;
  value = option_map f r.value;
  whole = λ after. k.sound (r.more ++ after) r.value after (r.whole after);
}
reads_on {f = f} k (Stopped Refused) r = record {
  after = r.after;
  is = λ more. k.sound more None (r.after ++ more) (r.is more);
  only = λ more other behind h.
      let q = k.only more other behind h in
      q.1 ∙ ap (option_map f) (r.only more q.0 behind q.2);
}

-- however the texts go on, the two constructs stand at them alike
pub record Agrees {V : Type 0} (Inner Outer : Construct V) (rest text : List ℕ) : Type 0 where
  pub sound : (more : List ℕ) (value : Option V) (after : List ℕ) → Inner (rest ++ more) value after → Outer (text ++ more) value after
  pub only : (more : List ℕ) (value : Option V) (after : List ℕ) → Outer (text ++ more) value after → Inner (rest ++ more) value after

-- what reading the one comes to, reading the other comes to
pub reads_same : {V : Type 0} {Inner Outer : Construct V} {rest text : List ℕ} → Agrees Inner Outer rest text → (o : Outcome V) → Reads Inner rest o → Reads Outer text o
reads_same k (Found value after) r = record {
  is = λ more. k.sound more (Some value) (after ++ more) (r.is more);
  only = λ more other behind h. r.only more other behind (k.only more other behind h);
}
reads_same k (Stopped Broken) r = λ more other behind h. r more other behind (k.only more other behind h)
reads_same {Inner = Inner} {Outer = Outer} {rest = rest} {text = text} k (Stopped Cut) r = record {
  none = λ other behind h.
      r.none other behind (subst (λ (t : List ℕ). Inner t other behind) (append-nil rest)
      (k.only [] other behind (subst (λ (t : List ℕ). Outer t other behind) (sym (append-nil text)) h)));
  more = r.more;
  value = r.value;
  whole = λ after. k.sound (r.more ++ after) r.value after (r.whole after);
}
reads_same k (Stopped Refused) r = record {
  after = r.after;
  is = λ more. k.sound more None (r.after ++ more) (r.is more);
  only = λ more other behind h. r.only more other behind (k.only more other behind h);
}

-- the outcome of a function that answers a character and the text behind it
abbrev pub char_outcome : Result (ℕ × Bor (List ℕ)) Stop → Outcome ℕ
char_outcome = outcome (λ found. found.0) (λ found. chars found.1.now)

-- one more character in front of what is read
pub mapped_more : (front : List ℕ) (c : ℕ) (o : Outcome (List ℕ))
    → mapped (λ (body : List ℕ). front ++ body) (mapped (λ (body : List ℕ). c ∷ body) o) ≡ mapped (λ (body : List ℕ). (front ++ c ∷ []) ++ body) o
mapped_more front c (Found value after) = ap (λ (v : List ℕ). Found v after) (sym (append_assoc front (c ∷ []) value))
mapped_more front c (Stopped stop) = refl

-- the outcome of a function that answers the text behind
abbrev pub unit_outcome : Result (Bor (List ℕ)) Stop → Outcome (Unit {0})
unit_outcome = outcome (λ rest. tt) (λ rest. chars rest.now)
