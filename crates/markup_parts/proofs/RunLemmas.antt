-- A run of characters ends where it ends, however the text goes on.
use Rattle.std.proofs.Common.{◌≡◌, ℕ, List, [], ◌∷◌, ◌++◌, Bool, true, false, ◌||◌, refl, ap, sym, ◌∙◌, subst, append_assoc}
use Rattle.std.proofs.lemmas.List.{append-nil}
use Rattle.std.specs.List.{AllByRecursion as Each}
use Rattle.markup_parts.specs.Constructs.{EndsBefore, IsRun, IsName, StartsName}
use Rattle.markup_parts.specs.Chars.{is_among, is_name_char, is_name_start}
use Rattle.markup_parts.specs.Runs.{NotBegins, IsNamePart}

pub ends_more : (test : ℕ → Bool) (after more : List ℕ) → EndsBefore test after → EndsBefore test (after ++ more)
ends_more test [] more h = absurd h
ends_more test (c ∷ cs) more h = h

-- a passing and a failing character differ
apart : (test : ℕ → Bool) (c d : ℕ) → test c ≡ true → test d ≡ false → c ≡ d → ⊥
apart test c d passes fails e = let f : test c ≡ test d = ap test e in cc

-- two splits of a text behind the characters that pass are one
pub run_same : (test : ℕ → Bool) (run other after behind : List ℕ) → Each (λ c. test c ≡ true) run → Each (λ c. test c ≡ true) other
    → EndsBefore test after → EndsBefore test behind → run ++ after ≡ other ++ behind → (run ≡ other) × (after ≡ behind)
run_same test [] [] after behind a b x y e = (refl, e)
run_same test [] (d ∷ ds) [] behind a b x y e = absurd x
run_same test [] (d ∷ ds) (c ∷ cs) behind a b x y e = absurd (apart test d c b.0 x (cc))
run_same test (c ∷ cs) [] after [] a b x y e = absurd y
run_same test (c ∷ cs) [] after (d ∷ ds) a b x y e = absurd (apart test c d a.0 y (cc))
run_same test (c ∷ cs) (d ∷ ds) after behind a b x y e =
    let tail : cs ++ after ≡ ds ++ behind = cc in
    let head : c ≡ d = cc in
    let rest = run_same test cs ds after behind a.1 b.1 x y tail in
    (cc, rest.1)

pub each_push : (P : ℕ → Type 0) (xs : List ℕ) (x : ℕ) → Each P xs → P x → Each P (xs ++ x ∷ [])
each_push P [] x all p = (p, tt)
each_push P (y ∷ ys) x all p = (all.0, each_push P ys x all.1 p)

pub run_keeps : {test : ℕ → Bool} {text run after : List ℕ} (more : List ℕ) → IsRun test text run after → IsRun test (text ++ more) run (after ++ more)
run_keeps {test} {text} {run} {after} more r = record {
  parts = ap (λ (t : List ℕ). t ++ more) r.parts ∙ append_assoc run after more;
  all = r.all;
  ends = ends_more test after more r.ends;
}

pub run_once : {test : ℕ → Bool} {text run after other behind : List ℕ} (more : List ℕ) → IsRun test text run after → IsRun test (text ++ more) other behind
    → (other ≡ run) × (behind ≡ after ++ more)
run_once {test} {text} {run} {after} {other} {behind} more r s =
    let k = run_keeps more r in
    let e = run_same test other run behind (after ++ more) s.all r.all s.ends k.ends (sym s.parts ∙ k.parts) in
    e

pub name_keeps : {text name after : List ℕ} (more : List ℕ) → IsName text name after → IsName (text ++ more) name (after ++ more)
name_keeps more n = record { run = run_keeps more n.run; starts = n.starts }

pub name_once : {text name after other behind : List ℕ} (more : List ℕ) → IsName text name after → IsName (text ++ more) other behind
    → (other ≡ name) × (behind ≡ after ++ more)
name_once more n m = run_once more n.run m.run

-- what doesn't begin as a name does is no name
pub name_none : (text more name after : List ℕ) → (text ≡ [] → ⊥) → NotBegins is_name_start text → IsName (text ++ more) name after → ⊥
name_none [] more name after filled h n = filled refl
name_none (c ∷ cs) more [] after filled h n = n.starts
name_none (c ∷ cs) more (d ∷ ds) after filled h n = apart is_name_start d c n.starts h (let e = n.run.parts in cc)

-- all of a text passes, so no run ends in it
all_pass : (test : ℕ → Bool) (run after : List ℕ) → Each (λ c. test c ≡ true) (run ++ after) → EndsBefore test after → ⊥
all_pass test [] [] a x = x
all_pass test [] (c ∷ cs) a x = apart test c c a.0 x refl
all_pass test (c ∷ cs) after a x = all_pass test cs after a.1 x

pub run_none : {test : ℕ → Bool} {text run after : List ℕ} → Each (λ c. test c ≡ true) text → IsRun test text run after → ⊥
run_none {test} {text} {run} {after} all r = all_pass test run after (subst (Each (λ c. test c ≡ true)) r.parts all) r.ends

pub no_name : (name after : List ℕ) → IsName [] name after → ⊥
no_name [] after n = n.starts
no_name (c ∷ cs) after n = let e = n.run.parts in absurd (cc)

-- a beginning of a name isn't a name yet
pub name_unfinished : (text name after : List ℕ) → IsNamePart text → IsName text name after → ⊥
name_unfinished [] name after p n = no_name name after n
name_unfinished (c ∷ cs) name after p n = run_none p.1 n.run

-- what makes a name of a beginning
pub record Completes (text : List ℕ) : Type 0 where
  pub more : List ℕ
  pub name : List ℕ
  pub parts : text ++ more ≡ name
  pub all : Each (λ c. is_name_char c ≡ true) name
  pub starts : StartsName name

pub completes : (text : List ℕ) → IsNamePart text → Completes text
unfolding is_name_char is_name_start
completes [] p = record { more = 0x61 ∷ []; name = 0x61 ∷ []; parts = refl; all = (refl, tt); starts = refl }
completes (c ∷ cs) p = record { more = []; name = c ∷ cs; parts = append-nil (c ∷ cs); all = p.1; starts = p.0 }

pub completed_name : {text : List ℕ} (finish : Completes text) (after : List ℕ) → EndsBefore is_name_char after → IsName (text ++ (finish.more ++ after)) finish.name after
completed_name {text} finish after h = record {
  run = record { parts = sym (append_assoc text finish.more after) ∙ ap (λ (t : List ℕ). t ++ after) finish.parts; all = finish.all; ends = h };
  starts = finish.starts;
}

-- a text that goes on
pub ends_before : (test : ℕ → Bool) (rest : List ℕ) → NotBegins test rest → (rest ≡ [] → ⊥) → EndsBefore test rest
ends_before test [] never filled = filled refl
ends_before test (c ∷ cs) never filled = never

-- what a name begins with is a character of names
starts_named : (c : ℕ) → is_name_start c ≡ true → is_name_char c ≡ true
unfolding is_name_char
starts_named c e = ap (λ (b : Bool). b || is_among ((0x2d, 0x2e) ∷ (0x30, 0x39) ∷ (0xb7, 0xb7) ∷ (0x300, 0x36f) ∷ (0x203f, 0x2040) ∷ []) c) e

-- the run behind such a beginning begins as a name does
pub starts_run : (text name rest cs : List ℕ) (c : ℕ) → text ≡ c ∷ cs → text ≡ name ++ rest → NotBegins is_name_char rest → is_name_start c ≡ true → StartsName name
starts_run text [] [] cs c first parts never e = let f = sym first ∙ parts in absurd (cc)
starts_run text [] (d ∷ ds) cs c first parts never e =
    let same : c ≡ d = (let f = sym first ∙ parts in cc) in
    absurd (apart is_name_char c d (starts_named c e) never same)
starts_run text (d ∷ ds) rest cs c first parts never e =
    let same : d ≡ c = (let f = sym first ∙ parts in cc) in
    ap is_name_start same ∙ e
