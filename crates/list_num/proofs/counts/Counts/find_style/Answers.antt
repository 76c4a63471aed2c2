use Rattle.std.proofs.Common.{◌≡◌, ◌+◌, List, ℕ, Bool, take, Option, None, Some, true, false, cond, refl, sym, ap, ◌∙◌}
use Rattle.std.specs.HashMap.{get}
use Rattle.std.specs.Map.{lookup}
use Rattle.std.specs.Str.{bytes_eq}
use Rattle.std.proofs.lemmas.List.{take_all}
use Rattle.doc_model.specs.declared.list_style.ListStyle.{ListStyle}
use Rattle.field_model.specs.Labels.{style_named}
use Rattle.list_num.specs.declared.counts.StyleCounts.{StyleCounts}
use Rattle.list_num.specs.Counts.{entered}
use Rattle.list_num.proofs.Entering.{found_here, have-entered, have-same, of_unknown, unknown_in}
use Rattle.list_num.proofs.Placing.{test_yes, test_no}
use Rattle.list_num.proofs.counts.Counts.find_style.Goals as goal

pub returns-then-is_same-clause-style : goal.returns-then-is_same-clause-style
returns-then-is_same-clause-style c before counted =
    let unknown = unknown_in c.args.lists.now before c.args.name.now c.styles.self c.requires.named c.styles.invariant.unknown (c.styles.invariant.kept before counted) in
    of_unknown c.args.lists.now before c.styles.self.known c.args.name.now (Some c.styles.self.known) unknown
    (found_here c.args.lists.now c.styles.self.known c.index-lists-self.result c.args.name.now c.styles-test.true c.index-lists-self.is (test_yes c.index-lists-self.result.name c.args.name.now (c.if-is_same.ensures.0 refl)) unknown.unseen)

pub returns-in_err-enter-clause-kept : goal.returns-in_err-enter-clause-kept
returns-in_err-enter-clause-kept c before counted =
    have-same c.args.lists.now before c.styles.self c.enter.new.self c.enter.ensures.outline c.enter.ensures.known (λ name. ap (lookup (bytes_eq name)) c.in_err-enter.ensures.err) (c.styles.invariant.kept before counted)

pub styles-preserved : goal.styles-preserved
styles-preserved c =
    let other : bytes_eq c.index-lists-self.result.name c.args.name.now ≡ false = test_no c.index-lists-self.result.name c.args.name.now (λ e. let never : false ≡ true = c.if-is_same.ensures.1 e in cc) in
    let put : Option StyleCounts = Some (entered c.styles.self.known (get bytes_eq c.styles.self.lists c.index-lists-self.result.name)) in
    record {
      unknown = c.in_ok-enter.ensures.ok c.args.name.now ∙ ap (λ (b : Bool). cond b put (get bytes_eq c.styles.self.lists c.args.name.now)) other ∙ c.styles.invariant.unknown;
      kept = λ before counted. have-entered c.args.lists.now before c.index-lists-self.result c.styles.self _ c.styles-test.true c.index-lists-self.is
          c.enter.ensures.outline (ap (λ (n : ℕ). n + 1) c.enter.ensures.known) (c.in_ok-enter.ensures.ok) (c.styles.invariant.kept before counted);
    }

pub returns-clause-style : goal.returns-clause-style
returns-clause-style c before counted =
    let unknown = unknown_in c.args.lists.now before c.args.name.now c.styles.self c.requires.named c.styles.invariant.unknown (c.styles.invariant.kept before counted) in
    let whole : take c.styles.self.known c.args.lists.now ≡ c.args.lists.now = take_all c.styles.self.known c.args.lists.now c.styles-test.false in
    of_unknown c.args.lists.now before c.styles.self.known c.args.name.now None unknown (sym unknown.unseen ∙ ap (λ (lists : List ListStyle). style_named lists c.args.name.now) whole)
