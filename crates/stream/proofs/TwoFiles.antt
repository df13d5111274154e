-- What the stream of every two images that open is. The laws of the turns of any two lists of entries hold of what the two images
-- show, from any places on; the rest is what a host's calls answer.
use Rattle.reading.specs.Merged.{merged}
use Rattle.reading.specs.MergedAnswers.{same_ids}
use Rattle.stream.specs.Stream.{TwoFiles}
use Rattle.reading.proofs.Turns.{all_first, all_second, met_equal}
use Rattle.reading.proofs.PairLaws.{both_open, stream_merges}
use Rattle.stream.proofs.Meeting.{shown_first, shown_second}
use Rattle.stream.proofs.Stepping.{steps_show, page_goes_on}
use Rattle.stream.proofs.Rising.{entries_rise}

-- request m: of every two images that open
pub two_files : TwoFiles
unfolding merged
two_files a b opens =
    let o = both_open a b opens in
    record {
      first = λ i j. all_first (stream_merges a b i j);
      second = λ i j. all_second (stream_merges a b i j);
      met = λ i j e f m. met_equal e f (stream_merges a b i j) m;
      of_the_first = shown_first (stream_merges a b 0 0);
      of_the_second = shown_second (same_ids a b) (entries_rise a o.0) (entries_rise b o.1) (stream_merges a b 0 0);
      all = λ k. steps_show a b opens k 0 0;
      steps = steps_show a b opens;
      pages = page_goes_on a b opens;
    }
