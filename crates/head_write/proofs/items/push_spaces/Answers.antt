use Rattle.std.proofs.Common.{◌≡◌, ◌++◌, ℕ, OnOk, sym, subst}
use Rattle.std.specs.Str.{chars}
use Rattle.std.specs.String.{string_bytes}
use Rattle.head_write.specs.Items.{spaces_text}
use Rattle.head_write.proofs.items.push_spaces.Goals as goal

pub returns-in-1 : goal.returns-in-1
unfolding chars
returns-in-1 c = subst (λ (count : ℕ). OnOk c.push_bare.result (chars (string_bytes c.push_bare.new.out) ≡ chars (string_bytes c.args.out.now) ++ spaces_text count)) (sym c.in-1.is) c.push_bare.ensures
