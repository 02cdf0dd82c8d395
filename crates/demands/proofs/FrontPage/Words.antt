-- The words of the front page, which specs/FrontPage/Words.antt defines or takes from below.
pub use Rattle.demands.specs.FrontPage.Words.{◌≡◌, ◌↔◌, ◌⊎◌, false, List, [], ◌++◌, map, ℕ, ◌≤◌, ◌<◌, length, take}
pub use Rattle.demands.specs.FrontPage.Words.{drop, All, Octets, hexed, Answer, success, refusal, reported, Call}
pub use Rattle.demands.specs.FrontPage.Words.{written_by, Message, form, Decoded, accepted, refused, decode, View}
pub use Rattle.demands.specs.FrontPage.Words.{within?, text, converted, Converts, Reads, answer_in, room, Length}
pub use Rattle.demands.specs.FrontPage.Words.{FitsIn}
pub use Rattle.demands.specs.FrontPage.Words.{Room, Made, Both, Accepts, Accepted, Spells, InGrammar, Begins}
pub use Rattle.demands.specs.FrontPage.Words.{LongestBeginning, HasText, NoMessage, stream, add_form, forms_of}
