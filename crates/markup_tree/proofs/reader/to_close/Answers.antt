use Rattle.std.proofs.Common.{◌≡◌, ◌<◌, ◌≤◌, ◌+◌, ℕ, List, [], ◌∷◌, ◌++◌, length, chars, bytes_eq, true, false, inl, inr, refl, ap, sym, ◌∙◌, subst, arith, rules, Some}
use Rattle.markup_nodes.specs.declared.tree.Elem.{Elem, out-Elem}
use Rattle.markup_nodes.specs.Node.{Element}
use Rattle.markup_tree.specs.Documents.{Reaches, behind_tag, place_of}
use Rattle.markup_tree.specs.Pieces.{Silent, Begins, Ends, Holds, Declares, line_ends}
use Rattle.markup_tree.specs.Stacks.{name_of, spot_in}
use Rattle.markup_tree.proofs.ReaderLemmas.{inside_open, read_fits, nothing_below}
use Rattle.markup_tree.proofs.StackLemmas.{holding, behind_held, behind_deep, behind_few, behind_other, behind_root, behind_parent}
use Rattle.markup_tree.proofs.TextRunLemmas.{run_reached}
use Rattle.markup_tree.proofs.WayLemmas.{on_step, stopped_fault, refused_fault}
use Rattle.markup_tree.proofs.reader.to_close.Goals as goal

pub returns-in-Err-clause-fault : goal.returns-in-Err-clause-fault
returns-in-Err-clause-fault c =
    stopped_fault (chars c.args.whole.now) (spot_in c.content.below.items c.content.top (chars c.content.rest.now)) c.in-Err.fault c.content.invariant.2 (λ e. inside_open e.0) c.in-Err.ensures.read c.stopped.ensures

pub returns-then-len-ge-MOST_OPEN-clause-fault : goal.returns-then-len-ge-MOST_OPEN-clause-fault
returns-then-len-ge-MOST_OPEN-clause-fault c =
    let many : 200 ≤ length c.content.below.items + 1 = omega (arith, c.if-len-ge-MOST_OPEN.true, c.len.ensures, c.content.below.ok) in
    refused_fault (chars c.args.whole.now) (spot_in c.content.below.items c.content.top (chars c.content.rest.now)) c.content.invariant.2 (rw c.in-Tag.is at c.in-Ok.ensures.read)
    (behind_deep (place_of (chars c.args.whole.now) (chars c.content.rest.now)) c.content.below.items c.content.top (chars c.content.rest.now) (chars c.in-Ok.found.1.now) c.in-Tag.tag many)
    c.offence_at.ensures c.place.ensures.place

pub returns-then-not-is_word-clause-fault : goal.returns-then-not-is_word-clause-fault
returns-then-not-is_word-clause-fault c =
    let apart : bytes_eq (name_of c.content.top) (chars c.in-End.name.now) ≡ false =
    ap (λ (word : List ℕ). bytes_eq word (chars c.in-End.name.now)) (sym c.get.ensures) ∙ (sym c.is_word.ensures ∙ c.if-not-is_word.true) in
    refused_fault (chars c.args.whole.now) (spot_in c.content.below.items c.content.top (chars c.content.rest.now)) c.content.invariant.2 (rw c.in-End.is at c.in-Ok.ensures.read)
    (behind_other (place_of (chars c.args.whole.now) (chars c.content.rest.now)) c.content.below.items c.content.top (chars c.content.rest.now) (chars c.in-Ok.found.1.now) (chars c.in-End.name.now) apart)
    c.offence_at-then-not-is_word.ensures c.place-then-not-is_word.ensures.place

pub returns-in_default-clause-read : goal.returns-in_default-clause-read
returns-in_default-clause-read c =
    let same : bytes_eq (name_of c.content.top) (chars c.in-End.name.now) ≡ true =
    ap (λ (word : List ℕ). bytes_eq word (chars c.in-End.name.now)) (sym c.get.ensures) ∙ (sym c.is_word.ensures ∙ c.if-not-is_word.false) in
    let alone : c.content.below.items ≡ [] = nothing_below c.content.below.items (omega (arith, c.in_default.ensures.cases.0, c.content.below.ok)) in
    on_step (chars c.args.whole.now) (spot_in c.content.below.items c.content.top (chars c.content.rest.now)) (Ends (chars c.in-End.name.now)) (chars c.in-Ok.found.1.now)
    (rw c.in-End.is at c.in-Ok.ensures.read) c.content.invariant.2 _
    (behind_root (place_of (chars c.args.whole.now) (chars c.content.rest.now)) c.content.below.items c.content.top (chars c.content.rest.now) (chars c.in-Ok.found.1.now) (chars c.in-End.name.now) same alone)

pub content-preserved-in-Nothing : goal.content-preserved-in-Nothing
content-preserved-in-Nothing c =
    let spot = spot_in c.content.below.items c.content.top (chars c.content.rest.now) in (
      omega (arith, c.in-Ok.ensures.shorter, c.content.invariant.0),
      c.content.invariant.1,
      elim c.in-Nothing.is [
        | inl is ↦ on_step (chars c.args.whole.now) spot Silent (chars c.in-Ok.found.1.now) (rw is at c.in-Ok.ensures.read) c.content.invariant.2 _ refl
        | inr is ↦ absurd (read_fits spot Declares (rw is at c.in-Ok.ensures.read))
      ],
      search rules,
    )

pub content-preserved-in_ok-push-in-Char : goal.content-preserved-in_ok-push-in-Char
content-preserved-in_ok-push-in-Char c = (
  omega (arith, c.in-Ok.ensures.shorter, c.content.invariant.0),
  c.content.invariant.1,
  on_step (chars c.args.whole.now) (spot_in c.content.below.items c.content.top (chars c.content.rest.now)) (Holds (c.in-Char.c ∷ [])) (chars c.in-Ok.found.1.now) (rw c.in-Char.is at c.in-Ok.ensures.read) c.content.invariant.2 _
      (behind_held (place_of (chars c.args.whole.now) (chars c.content.rest.now)) c.content.below.items c.content.top (chars c.content.rest.now) (chars c.in-Ok.found.1.now) c.push.new.self (c.in-Char.c ∷ []) c.in_ok-push-in-Char.ensures.ok),
  search rules,
)

pub content-preserved-in_ok-push_data-in-Data : goal.content-preserved-in_ok-push_data-in-Data
content-preserved-in_ok-push_data-in-Data c = (
  omega (arith, c.in-Ok.ensures.shorter, c.content.invariant.0),
  c.content.invariant.1,
  on_step (chars c.args.whole.now) (spot_in c.content.below.items c.content.top (chars c.content.rest.now)) (Holds (line_ends (chars c.in-Data.section.now))) (chars c.in-Ok.found.1.now) (rw c.in-Data.is at c.in-Ok.ensures.read) c.content.invariant.2 _
      (behind_held (place_of (chars c.args.whole.now) (chars c.content.rest.now)) c.content.below.items c.content.top (chars c.content.rest.now) (chars c.in-Ok.found.1.now) c.push_data.new.nodes (line_ends (chars c.in-Data.section.now)) c.in_ok-push_data-in-Data.ensures),
  search rules,
)

pub content-preserved-in_ok-begin-in-Tag : goal.content-preserved-in_ok-begin-in-Tag
content-preserved-in_ok-begin-in-Tag c =
    let whole = chars c.args.whole.now in
    let here = chars c.content.rest.now in
    let behind = chars c.in-Ok.found.1.now in
    let below = c.content.below.items in
    let few : length below + 1 < 200 = omega (arith, c.if-len-ge-MOST_OPEN.false, c.len.ensures, c.content.below.ok) in
    let next = spot_in c.begin.new.below.items c.begin.new.top behind in
    let begun : behind_tag (place_of whole here) (spot_in below c.content.top here) c.in-Tag.tag behind ≡ next =
    subst (λ (p : ℕ). behind_tag p (spot_in below c.content.top here) c.in-Tag.tag behind ≡ next) c.place-in-Tag.ensures.place (c.in_ok-begin-in-Tag.ensures.spot here behind) in (
      omega (arith, c.in-Ok.ensures.shorter, c.content.invariant.0),
      omega (arith, c.if-len-ge-MOST_OPEN.false, c.len.ensures, c.in_ok-begin-in-Tag.ensures.count),
      on_step whole (spot_in below c.content.top here) (Begins c.in-Tag.tag) behind (rw c.in-Tag.is at c.in-Ok.ensures.read) c.content.invariant.2 next
          (behind_few (place_of whole here) below c.content.top here behind c.in-Tag.tag few ∙ ap Some begun),
      search rules,
    )

pub content-preserved : goal.content-preserved
content-preserved c =
    let place = place_of (chars c.args.whole.now) (chars c.content.rest.now) in
    let same : bytes_eq (name_of c.content.top) (chars c.in-End.name.now) ≡ true =
    ap (λ (word : List ℕ). bytes_eq word (chars c.in-End.name.now)) (sym c.get.ensures) ∙ (sym c.is_word.ensures ∙ c.if-not-is_word.false) in
    let popped : c.content.below.items ≡ c.pop.new.self.items ++ c.in-Some.parent ∷ [] = c.in-Some.ensures.items in
    let is : c.replace-elem.new.dest ≡ c.in-Some.parent = c.replace-elem.ensures.after in
    let nodes : c.push_elem.new.self ≡ (out-Elem c.in-Some.parent).nodes ++ Element c.content.top ∷ [] =
    c.in_ok-push_elem-in-End.ensures.ok ∙ (ap (λ (elem : Elem). (out-Elem elem).nodes ++ Element c.replace-elem.result ∷ []) is
    ∙ ap (λ (elem : Elem). (out-Elem c.in-Some.parent).nodes ++ Element elem ∷ []) c.replace-elem.ensures.value) in (
      omega (arith, c.in-Ok.ensures.shorter, c.content.invariant.0),
      omega (arith, c.in-Some.ensures.cases, c.content.invariant.1),
      subst (λ (elem : Elem). Reaches (chars c.args.whole.now) (spot_in c.pop.new.self.items (holding elem c.push_elem.new.self) (chars c.in-Ok.found.1.now))) (sym is)
          (on_step (chars c.args.whole.now) (spot_in c.content.below.items c.content.top (chars c.content.rest.now)) (Ends (chars c.in-End.name.now)) (chars c.in-Ok.found.1.now) (rw c.in-End.is at c.in-Ok.ensures.read) c.content.invariant.2 _
          (behind_parent place c.content.below.items c.content.top (chars c.content.rest.now) (chars c.in-Ok.found.1.now) (chars c.in-End.name.now) c.pop.new.self.items c.in-Some.parent c.push_elem.new.self same popped nodes)),
      search rules,
    )

pub content-preserved-then-not-is_nothing : goal.content-preserved-then-not-is_nothing
content-preserved-then-not-is_nothing c = (
  omega (arith, c.run.ensures.shorter, c.content.invariant.0),
  c.content.invariant.1,
  run_reached (chars c.args.whole.now) c.content.below.items c.content.top (chars c.run.result.0.now) (chars c.run.result.1.now) c.push_str.new.self c.run.ensures.all c.in_ok-push_str.ensures.ok
      (subst (λ (t : List ℕ). Reaches (chars c.args.whole.now) (spot_in c.content.below.items c.content.top t)) c.run.ensures.text c.content.invariant.2),
  search rules,
)
