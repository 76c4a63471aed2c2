use Rattle.std.proofs.Common.{◌≡◌, ◌++◌, sym, subst, OnOk}
use Rattle.std.specs.Str.{chars}
use Rattle.std.specs.String.{string_bytes}
use Rattle.std.specs.Fmt.{sign_text}
use Rattle.style_write.proofs.lengths.push_sign.Goals as goal

pub returns-then-below_zero : goal.returns-then-below_zero
unfolding chars
returns-then-below_zero c =
    subst (λ b. OnOk c.push_plain.result (chars (string_bytes c.push_plain.new.out) ≡ chars (string_bytes c.args.out.now) ++ sign_text b)) (sym c.if-below_zero.true) c.push_plain.ensures
