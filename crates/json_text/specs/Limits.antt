-- Limits of size, over which refusal 22 is given: RDATA, an option's value or the message over 65,535 octets.
use Rattle.std.specs.Prelude.{Bool, true, ◌&&◌}
use Rattle.octets.specs.Lists.{all}
use Rattle.records.specs.Message.{Record, form}
use Rattle.edns.specs.Edns.{small?, small_option?}
use Rattle.json_text.specs.View.{Additional, ordinary, edns, View, message_of}

unfoldable pub small_rdata? : Record → Bool
small_rdata? r = small? r.rdata

unfoldable pub small_options? : Additional → Bool
small_options? (ordinary r) = true
small_options? (edns e) = all small_option? e.options

-- the format's three limits; RDATA and values are parts of the message, so the last implies the others
unfoldable pub within? : View → Bool
within? v =
    let m = message_of v in
    all small_rdata? m.answers
    && all small_rdata? m.authority
    && all small_rdata? m.additional
    && all small_options? v.additional
    && small? (form m)
