use Rattle.std.proofs.Common.{ℕ, List, ◌∙◌, ◌||◌, [], ap, sym}
use Rattle.std.specs.Str.{bytes_eq}
use Rattle.load_model.specs.Left.{is_one_of}
use Rattle.sheet_names.specs.Known.{of_family}
use Rattle.sheet_styles.proofs.RuleLemmas.{read_parent, read_next, read_master, read_plain}
use Rattle.sheet_styles.proofs.rules.is_good.Goals as goal

pub returns-in-Parent : goal.returns-in-Parent
returns-in-Parent c =
    let styles : List (List ℕ) = of_family c.args.names.now.styles c.args.family in
    c.has.ensures ∙ ap (is_one_of styles) c.get-text.ensures ∙ sym (read_parent styles c.args.names.now.masters c.args.attribute.now c.in-Parent.is)

pub returns-in-Next : goal.returns-in-Next
returns-in-Next c =
    let styles : List (List ℕ) = of_family c.args.names.now.styles c.args.family in
    c.has-in-Next.ensures ∙ ap (is_one_of styles) c.get-text.ensures ∙ sym (read_next styles c.args.names.now.masters c.args.attribute.now c.in-Next.is)

pub returns-in-Master : goal.returns-in-Master
returns-in-Master c =
    c.is_master.ensures ∙ ap (λ text. bytes_eq text [] || is_one_of c.args.names.now.masters text) c.get-text.ensures
    ∙ sym (read_master (of_family c.args.names.now.styles c.args.family) c.args.names.now.masters c.args.attribute.now c.in-Master.is)

pub returns-in_default : goal.returns-in_default
returns-in_default c =
    c.is_read.ensures
    ∙ read_plain (of_family c.args.names.now.styles c.args.family) c.args.names.now.masters c.args.attribute.now.key c.args.attribute.now.text c.in_default.not-Parent c.in_default.not-Next c.in_default.not-Master
