use Rattle.expression_reader.proofs.Counting.{read_settled}
use Rattle.expression_reader.proofs.Law.{reads_begin, one_way, cannot_go_on, name_goes, name_stops}
use Rattle.expression_reader.proofs.laws.reads_fronts.Goals as goal

pub returns : goal.returns
returns c =
    record {
      begins = λ fs front s rs h. record { begins = reads_begin fs front s rs h; settled = read_settled fs front s rs h; only = λ qs b fixed. one_way fs front s rs qs h b fixed };
      stuck = cannot_go_on;
      names = name_goes;
      no_names = name_stops;
    }
