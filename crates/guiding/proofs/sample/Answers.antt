-- `guiding::sample` meets its contract: computed from the definitions. Assumes nothing.
use Rattle.std.proofs.Common.{refl}
use Rattle.model.specs.Runs.{run}
use Rattle.members.specs.Mask.{bits}
use Rattle.records.specs.Bytes.{records}
use Rattle.head.specs.Head.{row_at}
use Rattle.chains.specs.Chain.{chain, chains_of}
use Rattle.chains.specs.Image.{firsts_from}
use Rattle.loading.specs.Read.{laid}
use Rattle.image.specs.Image.{row_in, places_in}
use Rattle.recovery.specs.Plan.{times, turns, put, put_unless, need, informs_controller, hears, choosing_part, informs, receives, follows, reads_leader, waiting_part, draft, plan}
use Rattle.guiding.specs.Guiding.{sheet_state, sheet_plan, sheet_outcome, sheet_result, sheet_left, image_state, image_plan, SampleHolds}
use Rattle.guiding.proofs.sample.Goals as goal

sample-holds : SampleHolds
unfolding SampleHolds sheet_state sheet_plan sheet_outcome sheet_result sheet_left image_state image_plan records run times turns put put_unless need informs_controller hears choosing_part informs receives follows reads_leader waiting_part draft plan row_in places_in row_at bits chain chains_of firsts_from laid
sample-holds = (refl, refl, λ out. (refl, refl))

pub returns : goal.returns
returns c = sample-holds
