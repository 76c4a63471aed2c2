use Rattle.std.proofs.Common.{ℕ, ◌<◌, List, Result, Ok, Err, refl, ap, ◌∙◌, arith, inl, inr}
use Rattle.std.specs.Prelude.{MatchResult, IsOk}
use Rattle.std.specs.Str.{IsAscii, chars}
use Rattle.std.proofs.lemmas.List.Elements.{All-from_recursion, All-weaker}
use Rattle.std.proofs.lemmas.Str.Ascii.{IsAscii-from_all}
use Rattle.std.proofs.lemmas.Str.{IsUtf8-from_ascii, chars-IsAscii}
use Rattle.std.proofs.lemmas.Result.{MatchResult-at_ok}
use Rattle.desk_model.specs.Script.{IsJobName}
use Rattle.desk_model.specs.Script.{IsNameChar}
use Rattle.script_lang.proofs.names.own_name.Goals as goal

below : (c : ℕ) → IsNameChar c → c < 128
below c (inl h) = omega (arith, h.1)
below c (inr h) = omega (arith, h.1)

ascii : (text : List ℕ) → IsJobName text → IsAscii text
ascii text h =
    IsAscii-from_all text (All-weaker IsNameChar (λ c. c < 128) below text (All-from_recursion IsNameChar text h.2))

ok_unless : {T E F : Type 0} (P : T → Type 0) (Q : E → Type 0) (r : Result T E) → MatchResult r P (λ e. (¬ F) × Q e) → F → IsOk r
ok_unless P Q (Ok x) h f = refl
ok_unless P Q (Err e) h f = absurd (h.0 f)

pub unwrap-name-requires : goal.unwrap-name-requires
unwrap-name-requires c = ok_unless _ _ c.from_utf8.result c.from_utf8.ensures.cases (IsUtf8-from_ascii c.args.bytes.now (ascii c.args.bytes.now c.requires))

pub returns : goal.returns
returns c =
    let same = MatchResult-at_ok _ _ _ c.unwrap-name.ensures c.from_utf8.ensures.cases in
    c.from_list.ensures ∙ ap chars (c.in_ok-from_str.ensures.ok ∙ same.0) ∙ chars-IsAscii c.args.bytes.now (ascii c.args.bytes.now c.requires)
