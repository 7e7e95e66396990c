use Rattle.std.proofs.Common.{◌≡◌, ◌==◌, is_some, ap, ◌∙◌, rules}
use Rattle.std.specs.List.{find}
use Rattle.tempo.specs.declared.rates.SampleRateRow.{SampleRateRow}
use Rattle.tempo.proofs.RateTable.{found_exactly}
use Rattle.tempo.proofs.rates.rate_row.Goals as goal

pub returns-clause-cases : goal.returns-clause-cases
returns-clause-cases c =
    let found : c.find.result ≡ find (λ (r : SampleRateRow). c.args.sample_rate == r.sample_rate) c.iter.result.rest.now =
    search rules in
    ap is_some (found ∙ ap (find (λ (r : SampleRateRow). c.args.sample_rate == r.sample_rate)) c.iter.ensures.rest)
    ∙ found_exactly _ _ _ _ (c.args.sample_rate == 44100) (c.args.sample_rate == 48000) (c.args.sample_rate == 88200) (c.args.sample_rate == 96000)
