use Rattle.col_run.specs.Command.{command_of}
use Rattle.col_run.proofs.EndLemmas.{ends-by_input}
use Rattle.col_run.proofs.laws.a_run_without_faults_ends_by_its_input.Goals as goal

pub returns : goal.returns
returns g c =
    ends-by_input (command_of c.args.words.now) c.run.result g.S.Source.left c.args.source.now
    c.run.new.source g.K.Sink.written c.args.sink.now c.run.new.sink _ _ c.run.ensures.page
    c.run.ensures.wrong_words c.run.ensures.malformed c.run.ensures.too_long
    c.run.ensures.read_fault c.run.ensures.write_fault
