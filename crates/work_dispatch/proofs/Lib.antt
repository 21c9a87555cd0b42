mod SendingJobs
