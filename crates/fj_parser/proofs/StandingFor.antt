-- A reader of a language reads the same texts to values that are made of its own.
use Rattle.std.proofs.Common.{List, ap}
use Rattle.cfj_model.specs.Languages.{Language}
use Rattle.cfj_model.specs.Roles.{Role}
use Rattle.cfj_words.specs.Tokens.{Token}
use Rattle.fj_parser.specs.Laws.{Closes, Reads}
use Rattle.fj_machine.specs.Readers.{Reader}
use Rattle.cfj_model.specs.PartLanguages.{standing_for}

module _ {V W : Type 0} (f : V → W) (l : Language V) (m : Reader) (laws : Reads l m) where
  pub closes_so : (ts : List Token) (rs waiting : List Role) → Closes l ts rs waiting → Closes (standing_for f l) ts rs waiting
  closes_so ts rs waiting c = record { tree = c.tree; more = c.more; others = c.others; text = c.text; in_roles = c.in_roles }

  abbrev pub laws_for : Reads (standing_for f l) m
  laws_for =
      record {
        grammar = record { spells = laws.grammar.spells; gives = laws.grammar.gives; settled = laws.grammar.settled };
        ended = laws.ended;
        stands_for = λ n. f (laws.stands_for n);
        valued = λ x. ap f (laws.valued x);
        complete = laws.complete;
        sound = laws.sound;
        closes = λ ts s rs ran. closes_so ts rs (m.pending s) (laws.closes ts s rs ran);
        first = laws.first;
        last = laws.last;
        each = laws.each;
        settles = laws.settles;
        settled = laws.settled;
        named = laws.named;
        unnamed = laws.unnamed;
      }
