use Rattle.std.proofs.Common.{◌≡◌, string_bytes, take, encode_utf8_all}
use Rattle.std.specs.List.{flat_map}
use Rattle.paginate.specs.Placed.{bodies}
use Rattle.page_print.specs.Headers.{header_what}
use Rattle.page_print.proofs.headers.header_text.Given as goal

abbrev pub invariant-loop-what : goal.invariant-loop-what
invariant-loop-what l = string_bytes l.out ≡ flat_map (λ what. encode_utf8_all (header_what (bodies l.plan) l.index l.page what)) (take l.what-index l.what-items)
