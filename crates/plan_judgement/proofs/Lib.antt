-- `Seeding`: the seeds that a plan lacks. `Judging`: the conditions on eligible modules and on seeds.
mod Seeding
mod Judging
