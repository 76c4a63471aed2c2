use Rattle.std.proofs.Common.{◌≡◌, ◌∙◌, ◌∷◌, [], ◌++◌, ℕ, List, map, Option, Some, None, sym, ap, ap₂, subst, true, false}
use Rattle.std.specs.List.{list_any, AllByRecursion as Each}
use Rattle.std.specs.Str.{chars}
use Rattle.std.proofs.lemmas.Bool.{not-true, not-false}
use Rattle.std.proofs.lemmas.List.{map-append}
use Rattle.markup_nodes.specs.declared.words.Attr.{Attr}
use Rattle.load_model.specs.Names.{Expanded, attribute_name, has_twice}
use Rattle.expanded_names.proofs.EqualLemmas.{Texts, AreTexts, name_of, are_same, equal_found, once_more, put_behind, names_with, names_without, each_behind}
use Rattle.expanded_names.proofs.equal.has_equal_names.Goals as goal
use Rattle.expanded_names.proofs.equal.has_equal_names.Goals.{in-Some+in_ok-insert-in-Some+else-not-branch, in-None}

abbrev expanded : List ℕ → List ℕ → Option Expanded
expanded namespace local_name = Some (record { namespace = chars namespace; local_name = chars local_name })

pub returns-then-not-branch : goal.returns-then-not-branch
returns-then-not-branch c = λ bindings holds.
    let texts : Texts = (c.as_text.result, c.as_text-in-Some.result) in
    let f : Attr → Option Expanded = λ attr. attribute_name attr.name bindings in
    let named : f c.attr-item.result ≡ Some (name_of texts) =
    ap (λ name. attribute_name name bindings) (sym c.get.ensures) ∙ sym (c.in-Some.ensures bindings holds) ∙ ap₂ expanded (sym c.as_text.ensures.same) (sym c.as_text-in-Some.ensures.same) in
    let gone : c.in_ok-insert-in-Some.field-0 ≡ false = c.if-not-branch.true in
    let there : list_any (are_same texts) c.loop-attr.seen.keys ≡ true = not-false _ (sym c.in_ok-insert-in-Some.ensures.added ∙ gone) in
    sym (equal_found f c.args.attrs.now c.loop-attr.attr-index c.attr-item.result c.loop-attr-test.true c.attr-item.is c.loop-attr.seen.keys texts named
    (c.loop-attr.invariant.names bindings holds) c.loop-attr.invariant.texts (c.as_text.utf8, c.as_text-in-Some.utf8) there)

pub loop-attr-preserved : goal.loop-attr-preserved
loop-attr-preserved c =
    elim c.match-attribute_name.branch [
      | in-Some+in_ok-insert-in-Some+else-not-branch w ↦
          (let texts : Texts = (w.as_text.result, w.as_text-in-Some.result) in
          let are_texts : AreTexts texts = (w.as_text.utf8, w.as_text-in-Some.utf8) in
          let kept : w.in_ok-insert-in-Some.field-0 ≡ true = w.if-not-branch.false in
          let new : list_any (are_same texts) c.loop-attr.seen.keys ≡ false = not-true _ (sym w.in_ok-insert-in-Some.ensures.added ∙ kept) in
          let put : w.insert.new.self.keys ≡ c.loop-attr.seen.keys ++ texts ∷ [] = put_behind c.loop-attr.seen.keys w.insert.new.self.keys texts w.in_ok-insert-in-Some.ensures.keys new in
          let P : List Texts → Type 0 = λ all. Each AreTexts all in
          rw w.seen-is (record {
            names = λ bindings holds.
                (let f : Attr → Option Expanded = λ attr. attribute_name attr.name bindings in
                let named : f c.attr-item.result ≡ Some (name_of texts) =
                ap (λ name. attribute_name name bindings) (sym c.get.ensures) ∙ sym (w.in-Some.ensures bindings holds) ∙ ap₂ expanded (sym w.as_text.ensures.same) (sym w.as_text-in-Some.ensures.same) in
                ap (map name_of) put ∙ map-append name_of c.loop-attr.seen.keys (texts ∷ [])
                ∙ ap (λ (front : List Expanded). front ++ name_of texts ∷ []) (c.loop-attr.invariant.names bindings holds)
                ∙ sym (names_with f c.args.attrs.now c.loop-attr.attr-index c.attr-item.result c.loop-attr-test.true c.attr-item.is (name_of texts) named));
            once = ap (λ (all : List Texts). has_twice (map name_of all)) put ∙ once_more c.loop-attr.seen.keys texts c.loop-attr.invariant.texts are_texts c.loop-attr.invariant.once new;
            texts = subst P (sym put) (each_behind AreTexts c.loop-attr.seen.keys texts c.loop-attr.invariant.texts are_texts);
          }))
      | in-None w ↦
          rw w.seen-is (record {
            names = λ bindings holds.
                (let f : Attr → Option Expanded = λ attr. attribute_name attr.name bindings in
                let none : f c.attr-item.result ≡ None = ap (λ name. attribute_name name bindings) (sym c.get.ensures) ∙ sym (w.in-None.ensures bindings holds) in
                c.loop-attr.invariant.names bindings holds
                ∙ sym (names_without f c.args.attrs.now c.loop-attr.attr-index c.attr-item.result c.loop-attr-test.true c.attr-item.is none));
            once = c.loop-attr.invariant.once;
            texts = c.loop-attr.invariant.texts;
          })
    ]
