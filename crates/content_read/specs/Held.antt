-- What an element is and holds where the content of a paragraph is read.
use Rattle.std.specs.Prelude.{List, map}
use Rattle.markup_nodes.specs.Node.{Node, Element as Inner, Char as Letter}
use Rattle.load_model.specs.declared.element.Element.{Element, out-Element}
use Rattle.load_model.specs.Blocks.{Known, Around, Gives, ReadContent, gives_of, content_of}

-- what a node gives
abbrev pub given : Known → Node Element → Node Gives
given known (Inner element) = Inner (gives_of known element)
given known (Letter c) = Letter c

-- what the nodes of an element give
abbrev pub held : Known → Element → List (Node Gives)
held known element = map (given known) (out-Element element).nodes

-- the content that an element is
abbrev pub content_at : Known → Element → Around → ReadContent
content_at known element around = (gives_of known element).content around

-- the content that it holds
abbrev pub content_in : Known → Element → Around → ReadContent
content_in known element around = content_of around (held known element)
