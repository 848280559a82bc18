use Rattle.record_format.proofs.Records.{controls_is}
use Rattle.record_format.proofs.controls.controls_at.Goals as goal

pub returns : goal.returns
returns c = controls_is _ c.byte_at.ensures c.smoother_of.ensures c.byte_at-2.ensures c.residual_norm_of.ensures c.u64_at.ensures c.u64_at-2.ensures c.u64_at-3.ensures c.u64_at-4.ensures c.u64_at-5.ensures c.u64_at-6.ensures c.u64_at-7.ensures c.u64_at-8.ensures c.u64_at-9.ensures c.byte_at-3.ensures c.coarse_solver_of.ensures c.float_at.ensures c.float_at-2.ensures c.u64_at-10.ensures c.byte_at-4.ensures c.u64_at-11.ensures
