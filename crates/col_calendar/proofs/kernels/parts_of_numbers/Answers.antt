use Rattle.std.proofs.Common.{refl, Ok, Err}
use Rattle.col_types.specs.DataKind.{kind_of}
use Rattle.col_arity.proofs.KernelLemmas.{whole_values}
use Rattle.col_calendar.specs.Part.{number_step, on_number}
use Rattle.col_calendar.proofs.PartLemmas.{try_to}
use Rattle.col_calendar.proofs.kernels.parts_of_numbers.Goals as goal

pub returns : goal.returns
returns g c =
    let left = c.args.array.now in
    let step = on_number (number_step g.P.CivilPart.part left.data_type c.args.zone.now) in
    let u = whole_values g.I.NativeType g.I.NativeWhole g.met.I.NativeWhole.value_law in
    let v = whole_values g.O.NativeType g.O.NativeWhole g.met.O.NativeWhole.value_law in
    record {
      answer =
          rw (← c.data_type.ensures.value)
          (try_to u v step left (kind_of c.data_type.result) c.try_unary.result _ _ refl
          c.try_unary.ensures.answer c.try_unary.ensures.refused
          (λ x r h. c.requires.step x (Ok r) h)
          (λ e x h. c.requires.step x (Err e) h));
    }
