-- What is left out in the body and the text of a root.
use Rattle.std.specs.Prelude.{ℕ, [], ◌∷◌, map, Option, option_to_list}
use Rattle.load_model.specs.declared.names.Key.TheVariants as key
use Rattle.load_model.specs.declared.element.Element.{Element}
use Rattle.load_model.specs.Blocks.{left_by}
use Rattle.load_model.specs.Left.{Left, all_but, all_of, attributes_of, both, children}
use Rattle.load_model.specs.Values as value
use Rattle.load_model.specs.Values.{rule}

-- the attributes of a text, if there is one
abbrev pub attributes_left_in : Option Element → Left
attributes_left_in text = all_of (map (λ text. left_by (rule key.Global value.truth ∷ []) (attributes_of text)) (option_to_list text))

-- the attributes and the elements of a body of whose elements so many are read, if there is one
abbrev pub body_left_in : ℕ → Option Element → Left
body_left_in read body = all_of (map (λ body. both (left_by [] (attributes_of body)) (all_but read (children body))) (option_to_list body))
