pub mod LongJobs
