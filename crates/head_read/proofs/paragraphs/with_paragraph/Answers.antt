use Rattle.std.proofs.Common.{◌∙◌, ◌++◌, ◌∷◌, [], ℕ, List, length, map, sym, ap, ap₂}
use Rattle.std.proofs.lemmas.List.{map-append}
use Rattle.doc_model.specs.declared.page_layout.HeadPar.{HeadPar}
use Rattle.load_model.specs.Headers.{head_left, head_paragraph}
use Rattle.load_model.specs.Left.{all_of}
use Rattle.load_model.specs.Offences.{place_of, too_long}
use Rattle.sheet_values.proofs.Steps.{left_behind}
use Rattle.head_read.specs.Heads.{counted}
use Rattle.head_read.proofs.HeadLemmas.{long_behind}
use Rattle.head_read.proofs.paragraphs.with_paragraph.Goals as goal

pub returns : goal.returns
returns c = λ known knows before are.
    let element = c.args.element.now in
    let head = c.in_ok-head.ensures known knows in
    record {
      pars_are = c.in_ok-push.ensures.ok ∙ ap₂ (λ (all : List HeadPar) (one : HeadPar). all ++ one ∷ []) are.pars_are head.paragraph_is ∙ sym (map-append (head_paragraph known) before (element ∷ []));
      left_is = left_behind (head_left known) before element _ (c.both.ensures (all_of (map (head_left known) before)) (head_left known element) are.left_is head.left_is);
      too_long_are = c.in_ok-push_long.ensures
          ∙ ap₂ (λ (all : List ℕ) (items : ℕ). all ++ too_long (record { place = place_of element; items = items } ∷ [])) are.too_long_are (c.len.ensures ∙ ap (λ (par : HeadPar). length par.items) head.paragraph_is)
          ∙ sym (long_behind (counted known) before element);
    }
